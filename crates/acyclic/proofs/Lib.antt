pub mod NoCircle
