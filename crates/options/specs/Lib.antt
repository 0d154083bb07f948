pub mod Table
pub mod Words
pub mod Values
pub mod Ranges
pub mod Command
pub mod Parser
pub mod Told
pub mod Cut
