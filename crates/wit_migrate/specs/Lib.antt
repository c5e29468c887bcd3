pub mod Again
pub mod Migrates
