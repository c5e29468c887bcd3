pub mod Bounded
pub mod Circling
pub mod Having
pub mod Keeping
pub mod Ladder
pub mod Padded
pub mod Stepped
