pub mod Arrays
pub mod Entries
pub mod Exact
pub mod Lent
