pub mod Values
pub mod Ranged
pub mod Bytes
pub mod Distances
