pub mod BlockScans
pub mod Laws
