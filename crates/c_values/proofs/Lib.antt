pub mod Conversions
pub mod Counts
pub mod MadeObjects
pub mod Offsets
pub mod Taken
pub mod Undefined
