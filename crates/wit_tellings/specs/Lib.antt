pub mod Heard
pub mod Facts
