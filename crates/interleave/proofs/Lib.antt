pub mod Entries
pub mod Rows
pub mod Members
pub mod Settled
pub mod Starts
pub mod Alike
