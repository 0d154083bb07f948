pub mod Goals
pub mod Chains
pub mod Notes
pub mod Memories
