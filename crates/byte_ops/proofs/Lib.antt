pub mod Lows
pub mod Tested
pub mod Numbers
pub mod Writing
