pub mod Counters
pub mod Tables
pub mod Blocks
pub mod Laws
