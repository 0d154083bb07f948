pub mod Lowering
pub mod Registers
pub mod Lowered
pub mod Laws
