pub mod Holders
pub mod Kept
pub mod Shares
pub mod Stages
pub mod Steps
