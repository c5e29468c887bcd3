-- Lock types and the orders between them.
pub mod AllHeld
pub mod Among
pub mod Defined
pub mod Ends
pub mod Learnt
pub mod Once
pub mod Orderly
pub mod Paths
pub mod Reads
pub mod Ruled
pub mod Sound
pub mod Started
pub mod ToldPairs
pub mod TypedLocks
pub mod Types
