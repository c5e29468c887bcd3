pub mod Replaying
pub mod Status
