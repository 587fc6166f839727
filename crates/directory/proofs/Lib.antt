pub mod FirstRows
pub mod Rows
pub mod Searches
pub mod Pieces
pub mod Theorem
