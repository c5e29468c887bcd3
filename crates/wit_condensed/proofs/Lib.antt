pub mod Bits
pub mod Putting
