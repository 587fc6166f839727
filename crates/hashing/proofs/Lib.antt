pub mod HashTables
pub mod Parts
pub mod Links
