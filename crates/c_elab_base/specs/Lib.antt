pub mod Names
pub mod Regions
pub mod Derivations
pub mod Slots
pub mod Declarators
pub mod Tags
pub mod Specifiers
pub mod Layers
