pub mod Formulas
pub mod FirstStores
pub mod StartsNone
pub mod CountedObjects
