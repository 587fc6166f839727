pub mod Ways
pub mod Rising
