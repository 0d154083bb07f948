pub mod Marks
pub mod Growing
pub mod Lookups
pub mod Visiting
pub mod Following
pub mod Steps
