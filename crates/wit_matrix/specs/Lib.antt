pub mod Relation
pub mod Squares
