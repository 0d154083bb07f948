pub mod Again
pub mod Functions
pub mod Listing
pub mod Redeclaring
pub mod SettlingDeclared
pub mod ObjectSteps
