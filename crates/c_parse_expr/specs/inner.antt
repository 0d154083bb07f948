-- What no public contract says: definitions and proofs that the others stand on.
pub mod Many
pub mod Reading
pub mod Nodes
pub mod Findings
