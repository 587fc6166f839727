pub mod NodeLines
pub mod Lengths
