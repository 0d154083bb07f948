pub mod Making
pub mod Drafting
pub mod DraftingPointers
pub mod DraftingStructures
pub mod DraftingCalls
pub mod Leaving
