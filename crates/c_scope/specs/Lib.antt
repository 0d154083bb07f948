pub mod Members
pub mod Scopes
pub mod Functions
pub mod Faults
pub mod Types
pub mod Places
pub mod Homes
