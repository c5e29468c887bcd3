pub mod Answers
pub mod Bases
pub mod Behind
pub mod Held
pub mod Looks
pub mod Meets
