pub mod Agreement
pub mod Samples
pub mod Parts
pub mod Positions
pub mod Walking
