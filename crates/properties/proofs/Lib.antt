pub mod Behind
pub mod Arms
pub mod Numbering
