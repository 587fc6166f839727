pub mod Sheets
pub mod WithoutStarts
