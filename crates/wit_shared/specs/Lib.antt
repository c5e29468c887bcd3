pub mod Calls
pub mod Closing
pub mod Desk
pub mod Opening
pub mod Own
pub mod Publishing
