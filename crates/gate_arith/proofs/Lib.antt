pub mod Knowing
pub mod Steps
pub mod Calls
pub mod Fitting
