pub mod Repeats
pub mod Written
