pub mod Hits
pub mod Pages
pub mod Runs
pub mod Complete
pub mod Filling
pub mod Searching
pub mod Samples
