pub mod ObjectEntries
pub mod Settled
pub mod Functions
pub mod DeclaratorLists
