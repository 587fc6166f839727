pub mod Characters
pub mod Writing
