pub mod Statements
pub mod Files
pub mod StatementSteps
pub mod DefinitionSteps
