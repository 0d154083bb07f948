pub mod Readings
pub mod Placed
pub mod Ranks
pub mod Reached
