pub mod Mains
pub mod Switches
pub mod Scopes
