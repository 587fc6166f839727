pub mod Numbers
pub mod Codewords
pub mod Streams
pub mod Calls
pub mod Reading
pub mod Words
pub mod Theorem
pub mod Samples
