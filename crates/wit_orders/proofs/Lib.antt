pub mod Certified
pub mod Circles
pub mod Forward
pub mod Keys
pub mod Silent
pub mod Spelled
pub mod Types
pub mod Whole
