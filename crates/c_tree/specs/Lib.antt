pub mod Tree
pub mod Tables
pub mod Names
pub mod Spelling
pub mod Declarations
pub mod Statements
pub mod Files
