pub mod BlockScans
pub mod Looks
pub mod Theorem
