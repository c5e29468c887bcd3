pub mod Answers
pub mod Existing
pub mod Grading
pub mod Outputs
pub mod Reading
pub mod Spelling
