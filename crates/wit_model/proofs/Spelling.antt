-- The lines of a trace are printed and read alike.
pub mod CallKinds
pub mod Codecs
pub mod Fields
pub mod Kinds
pub mod Laws
pub mod Lengths
pub mod Named
pub mod Repeats
pub mod Sites
pub mod Words
