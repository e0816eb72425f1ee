pub mod Consistency
pub mod Maximum
pub mod Parts
pub mod Places
pub mod Sorts
pub mod Valuation
