pub mod Circles
pub mod Names
pub mod Refusing
pub mod Values
