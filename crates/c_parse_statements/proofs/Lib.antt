pub mod Firsts
pub mod SoundStatements
pub mod CompleteStatements
pub mod Loops
