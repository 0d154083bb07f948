pub mod Flags
pub mod Tables
pub mod Reading
pub mod Standing
pub mod inner
