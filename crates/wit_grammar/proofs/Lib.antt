pub mod Found
pub mod Frequent
