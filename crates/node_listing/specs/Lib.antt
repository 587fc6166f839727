pub mod Listing
pub mod Calls
pub mod Samples
pub mod Outcomes
