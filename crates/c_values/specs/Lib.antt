pub mod Variables
pub mod Numbers
pub mod Pointers
pub mod MadeObjects
