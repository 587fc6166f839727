pub mod Making
pub mod Outcomes
