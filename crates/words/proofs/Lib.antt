mod Bodies
mod SignedBodies
pub mod Bits
pub mod Carry
pub mod Division
pub mod Exact
pub mod Orders
pub mod Overflow
pub mod Powers
pub mod Ranges
pub mod Shifts
pub mod Signed
pub mod Sums
pub mod Views
pub mod Widths
