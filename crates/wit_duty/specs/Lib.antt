pub mod Streams
pub mod Twice
