pub mod Sizes
pub mod Calls
pub mod Theorem
