pub mod Ranks
pub mod Theorem
pub mod Samples
