pub mod Jumps
pub mod Lookahead
pub mod Nodes
pub mod Steps
pub mod Files
pub mod Held
