pub mod Alone
pub mod Answered
pub mod Covering
pub mod Links
pub mod NoMore
pub mod Twice
pub mod Writing
