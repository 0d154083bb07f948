pub mod Lists
pub mod Switches
