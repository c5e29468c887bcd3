pub mod Asking
pub mod Claims
pub mod Plays
pub mod Tickets
