pub mod Suffixes
pub mod Values
pub mod Settling
pub mod Ending
pub mod Fronts
