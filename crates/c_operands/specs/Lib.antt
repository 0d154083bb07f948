pub mod Nodes
pub mod Constants
pub mod Operands
