-- Worlds: threads that take, hold and free locks, and tell the verifier of it.
pub mod Deeds
pub mod Examples
pub mod Moving
pub mod Reordering
pub mod Scenes
pub mod Sequences
pub mod Shown
pub mod Stages
pub mod StepTable
pub mod Steps
pub mod Tried
pub mod Waiting
