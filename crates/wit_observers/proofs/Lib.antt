pub mod Looking
pub mod Numbers
pub mod Showing
