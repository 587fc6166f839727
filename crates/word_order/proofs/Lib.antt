pub mod Shortest
pub mod Order
