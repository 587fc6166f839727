pub mod Fits
pub mod Lists
pub mod Calls
