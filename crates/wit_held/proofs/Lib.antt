pub mod FoundLock
pub mod HeldLock
pub mod Marking
pub mod Newest
pub mod Passing
pub mod Recording
