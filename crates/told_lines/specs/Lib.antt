pub mod TypedLines
pub mod TreeLines
pub mod TokenLines
