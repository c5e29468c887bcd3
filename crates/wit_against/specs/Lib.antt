pub mod Answers
pub mod Existing
pub mod Judging
pub mod Known
pub mod Laws
pub mod Outputs
