pub mod Holding
pub mod TypeWidths
pub mod StaticObjects
pub mod Mains
