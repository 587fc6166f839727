pub mod Tested
pub mod Exact
