pub mod Fronts
pub mod Keeping
pub mod Links
pub mod Naming
pub mod Steps
