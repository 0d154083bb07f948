pub mod Flushing
pub mod Living
pub mod DraftingStatements
pub mod DraftingSwitches
pub mod DraftingItems
pub mod DraftingControl
pub mod DraftingJumps
pub mod InTurn
