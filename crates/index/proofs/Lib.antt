pub mod Limits
pub mod Texts
pub mod Passing
pub mod Refusals
pub mod Exact
