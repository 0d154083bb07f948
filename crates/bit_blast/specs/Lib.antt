pub mod Numbers
pub mod Reach
pub mod Marking
pub mod Variables
pub mod Steps
