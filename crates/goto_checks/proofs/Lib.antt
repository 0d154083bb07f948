pub mod SameCode
pub mod Extents
pub mod Making
pub mod Fitted
pub mod Threads
pub mod Kept
