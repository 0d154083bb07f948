pub mod Growth
pub mod Truth
pub mod Clauses
pub mod Sums
pub mod Bitwise
