pub mod Nothing
pub mod Seats
pub mod Rule
pub mod Shown
