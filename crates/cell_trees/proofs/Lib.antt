pub mod Levels
pub mod Kept
pub mod Filling
pub mod Differing
