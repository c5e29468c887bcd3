pub mod Files
pub mod Cards
pub mod Following
pub mod Rules
pub mod Entering
