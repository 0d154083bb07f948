pub mod Accesses
pub mod Temporaries
