pub mod Greater
