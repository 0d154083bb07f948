pub mod Threads
pub mod SourceRuns
pub mod CountsKept
pub mod Sound
pub mod Starts
pub mod Unlimited
pub mod Larger
