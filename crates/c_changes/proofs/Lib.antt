pub mod DrawnBits
pub mod Finishes
pub mod OpenLeft
