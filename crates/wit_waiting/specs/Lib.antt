pub mod Searching
pub mod Seated
pub mod Seats
