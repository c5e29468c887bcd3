pub mod Copies
pub mod Errands
pub mod Examples
pub mod Laws
pub mod Settled
