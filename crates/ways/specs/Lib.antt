pub mod Ways
pub mod Asks
