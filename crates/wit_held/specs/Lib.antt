pub mod Chains
pub mod Marks
pub mod Spots
pub mod Warned
