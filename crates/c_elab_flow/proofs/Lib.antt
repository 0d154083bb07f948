pub mod Jumping
pub mod Flowing
pub mod Flowless
pub mod Listing
pub mod Statics
pub mod Declaring
pub mod Switches
