pub mod EmptyFamilies
pub mod CheckedFalse
pub mod InferredTypes
