pub mod Made
pub mod Making
pub mod Samples
