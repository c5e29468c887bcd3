pub mod Keeping
pub mod Leaving
pub mod Links
pub mod Making
pub mod Memory
pub mod Pushing
pub mod Removing
pub mod Shifting
pub mod Spots
pub mod Standing
pub mod Steps
mod Threads
