pub mod Growth
pub mod Ranges
