-- What no public contract says: definitions that the proofs stand on.
pub mod Filling
