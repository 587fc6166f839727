pub mod Values
pub mod Tested
pub mod Singles
pub mod Whole
