pub mod PastMaximum
pub mod LateReturns
pub mod EachRun
pub mod Derived
pub mod SourceSizes
pub mod Writing
pub mod Composed
