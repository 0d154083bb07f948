-- What no public contract says: definitions that the others stand on.
pub mod Answers
pub mod Places
pub mod Reads
pub mod Registers
pub mod Held
pub mod Results
pub mod Conditions
