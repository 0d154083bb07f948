pub mod Satisfaction
pub mod Numbers
pub mod inner
pub mod Propagation
pub mod Databases
pub mod Refutation
pub mod Budget
pub mod Indexes
