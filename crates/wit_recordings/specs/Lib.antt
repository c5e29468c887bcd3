pub mod Duty
pub mod Recordings
