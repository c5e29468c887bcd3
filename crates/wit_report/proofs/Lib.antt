pub mod LockTypes
pub mod Written
pub mod HeldLines
pub mod Laid
pub mod ViewLines
pub mod Warned
pub mod Filled
