pub mod Firsts
pub mod Chains
pub mod ByCount
pub mod Used
pub mod Noted
