pub mod Answers
pub mod Checking
pub mod Laws
pub mod Outputs
pub mod Reading
pub mod Sequence
pub mod Spelling
