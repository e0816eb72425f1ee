pub mod EmptyFamilies
pub mod CheckedFalse
pub mod Least
pub mod Inferred
pub mod MainsType
