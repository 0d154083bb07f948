pub mod Runs
pub mod Arrivals
pub mod Forms
pub mod Happenings
pub mod Goals
pub mod Accesses
pub mod Turns
pub mod Formulas
