pub mod Agreed
pub mod Clean
pub mod Following
pub mod Places
