pub mod Multiplying
pub mod Shifting
pub mod Dividing
