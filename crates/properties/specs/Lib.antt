pub mod Spots
pub mod Properties
