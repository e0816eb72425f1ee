pub mod DistinctWords
pub mod NormalCaptures
pub mod SaturatedCaptures
pub mod Functions
pub mod Sizes
pub mod Sources
