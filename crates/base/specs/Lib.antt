pub mod Lists
pub mod Refusals
pub mod Answers
pub mod Outcomes
pub mod Texts
pub mod Samples
pub mod Props
