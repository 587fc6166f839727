pub mod Made
pub mod Samples
