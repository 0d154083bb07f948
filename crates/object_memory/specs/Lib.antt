pub mod Spots
pub mod Places
pub mod Hits
pub mod Failings
pub mod Questions
pub mod Words
