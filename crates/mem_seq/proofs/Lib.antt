pub mod Chaining
pub mod Building
pub mod Written
pub mod WordTests
pub mod Held
pub mod Noted
pub mod Learning
pub mod Following
