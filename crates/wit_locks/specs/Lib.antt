pub mod Guarding
pub mod Locking
