pub mod Queues
pub mod Reaching
pub mod SeatLists
pub mod SeatRows
pub mod SeatTests
pub mod WaitTables
pub mod Waits
pub mod Ways
