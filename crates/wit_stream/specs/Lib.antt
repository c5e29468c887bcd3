pub mod Machine
pub mod Stream
pub mod Text
