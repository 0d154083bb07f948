pub mod Items
pub mod Fits
pub mod Steps
pub mod Tasks
pub mod Plans
pub mod Answered
