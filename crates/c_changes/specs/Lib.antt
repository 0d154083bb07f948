pub mod Ways
pub mod Asking
