pub mod Finding
pub mod Samples
