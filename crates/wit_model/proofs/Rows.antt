-- Chunks by number: what is written into them, and where they stand.
pub mod Emptiness
pub mod Newest
pub mod Placing
pub mod Settled
pub mod Shown
pub mod Writing
