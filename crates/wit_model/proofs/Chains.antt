-- Held locks: what an entry of a history leaves of them.
pub mod Acts
pub mod After
pub mod Changes
pub mod Depth
pub mod Effects
pub mod Found
pub mod Free
pub mod GroupSteps
pub mod Grouping
pub mod Held
pub mod HeldLocks
pub mod Owed
pub mod Regrouping
pub mod Sane
pub mod Seats
pub mod Stands
