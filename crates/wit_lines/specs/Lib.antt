pub mod Driven
pub mod LineCalls
pub mod Outputs
pub mod Replays
pub mod Shown
