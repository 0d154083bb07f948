pub mod Tops
pub mod Words
pub mod Sizes
pub mod Places
pub mod Homes
pub mod FitParts
pub mod Frames
