pub mod Numbers
pub mod Owned
pub mod Places
pub mod Starts
pub mod Structures
pub mod Texts
pub mod Views
