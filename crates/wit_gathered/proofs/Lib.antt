pub mod Example
pub mod Keys
pub mod Last
pub mod Lines
pub mod Pairs
pub mod Same
