pub mod Code
pub mod Streams
pub mod Laws
pub mod Samples
pub mod Words
