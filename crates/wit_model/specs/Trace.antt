-- Traces: their lines, the texts of reports, and what a replay writes.
pub mod Fields
pub mod LineCalls
pub mod Moving
pub mod Outcomes
pub mod Output
pub mod Paths
pub mod Reading
pub mod Spelling
pub mod Texts
pub mod Views
pub mod Words
