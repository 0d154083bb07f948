pub mod Accesses
pub mod Parameters
