pub mod Made
pub mod Conversions
pub mod Shifting
pub mod Checking
pub mod Blocks
pub mod Distances
pub mod Halves
pub mod Reaching
