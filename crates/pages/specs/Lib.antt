pub mod Hits
pub mod Pages
pub mod Runs
pub mod Samples
