pub mod Acquisitions
pub mod Example
pub mod Laws
pub mod Outputs
