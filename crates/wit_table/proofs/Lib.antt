pub mod Places
pub mod Recent
