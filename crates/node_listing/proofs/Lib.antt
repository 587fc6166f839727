pub mod Vocabulary
pub mod Refusals
pub mod Lengths
pub mod Built
pub mod Cases
pub mod Calls
pub mod Samples
