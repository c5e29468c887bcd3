pub mod Quotes
pub mod Graphs
