pub mod Chains
pub mod Chunks
pub mod Kept
pub mod Lending
pub mod Places
