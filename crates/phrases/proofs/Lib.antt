pub mod Standing
pub mod NoWords
pub mod Anchors
pub mod Offsets
pub mod Mirror
pub mod Neighbours
pub mod Exact
pub mod Samples
