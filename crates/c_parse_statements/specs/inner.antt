-- What no public contract says: definitions and proofs that the others stand on.
pub mod Reading
pub mod Pieces
