-- What no public contract says: definitions and proofs that the others stand on.
pub mod Cuts
pub mod Adequate
pub mod Parts
pub mod ExitsFit
pub mod CallsFit
pub mod FitsKept
pub mod SizesKept
pub mod Blocks
pub mod BytesKept
pub mod FirstStates
pub mod KeptStates
