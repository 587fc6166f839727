pub mod Entries
pub mod Tables
pub mod Ranges
pub mod Samples
pub mod Members
pub mod WordLists
pub mod Calls
