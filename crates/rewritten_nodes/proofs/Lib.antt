pub mod Fitted
pub mod Sides
pub mod Standing
