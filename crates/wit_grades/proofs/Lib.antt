pub mod Besides
pub mod Codecs
pub mod Following
pub mod Spelled
pub mod Words
