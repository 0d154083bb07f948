pub mod Bytes
pub mod Forms
pub mod Constants
pub mod Literals
pub mod Kinds
pub mod Positions
pub mod Cutting
