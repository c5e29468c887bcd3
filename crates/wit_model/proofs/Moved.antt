-- A migrated trace tells what the trace told.
pub mod Agreement
pub mod FirstLines
pub mod GoneOn
pub mod KeptLines
pub mod Lines
pub mod Preludes
pub mod Tells
