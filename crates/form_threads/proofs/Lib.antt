pub mod Same
pub mod Hearing
pub mod Forming
