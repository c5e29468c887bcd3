pub mod OneWord
pub mod Standing
pub mod Telling
