pub mod Around
pub mod Outer
