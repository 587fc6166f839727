pub mod HashTables
pub mod Parts
