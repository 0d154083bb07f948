pub mod Sets
pub mod Outcomes
pub mod Moments
