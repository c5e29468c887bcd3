pub mod Example
pub mod Further
pub mod Keys
pub mod Spelled
pub mod Told
