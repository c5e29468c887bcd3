pub mod DrivingLemmas
pub mod ReplayLemmas
