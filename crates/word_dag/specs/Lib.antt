pub mod Meaning
pub mod Fitting
pub mod Growth
pub mod Folding
pub mod Index
