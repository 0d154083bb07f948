pub mod Integers
pub mod Types
pub mod Layouts
pub mod Fields
