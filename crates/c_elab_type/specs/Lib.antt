pub mod Initializers
pub mod Enumerations
pub mod Declarators
pub mod Specifiers
pub mod Steps
