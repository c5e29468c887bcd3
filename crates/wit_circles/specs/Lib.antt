pub mod Keeping
pub mod Laws
pub mod Orders
pub mod Searching
