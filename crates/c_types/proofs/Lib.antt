pub mod Kept
pub mod MemberLoops
pub mod Records
pub mod CellLists
pub mod Elements
