pub mod Trees
pub mod Typed
pub mod Standing
pub mod Operations
pub mod Ranges
