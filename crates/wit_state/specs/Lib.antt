pub mod Clean
pub mod State
