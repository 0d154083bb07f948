pub mod Executions
pub mod Clauses
pub mod Answers
pub mod Stops
pub mod Searches
