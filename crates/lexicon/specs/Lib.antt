pub mod Letters
pub mod Tables
pub mod Lexicon
pub mod Reading
pub mod Laws
pub mod Samples
