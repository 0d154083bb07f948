pub mod Shifts
pub mod Quotients
