-- Legal histories: what acceptance says, and what stays so.
pub mod Accepted
pub mod AcceptedLocks
pub mod AcceptedTurns
pub mod Asked
pub mod Exhaustion
pub mod KnownFiles
pub mod Legal
pub mod Live
pub mod Longer
pub mod NamedFiles
pub mod Used
