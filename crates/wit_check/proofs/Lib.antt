pub mod Chunks
pub mod Last
pub mod Looking
pub mod Meeting
pub mod Ruling
