pub mod Asking
pub mod Chains
pub mod Lines
pub mod Rows
