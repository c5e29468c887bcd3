pub mod Following
pub mod Lines
pub mod Nothing
pub mod Runs
