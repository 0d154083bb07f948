pub mod Objects
pub mod NodeWords
pub mod Replayed
pub mod Walks
