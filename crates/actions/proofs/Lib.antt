pub mod ByteLists
pub mod LocalRuns
pub mod RowReads
pub mod Changes
