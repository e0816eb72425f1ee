pub mod SourceTerms
pub mod TypedTerms
mod Built
mod Pared
mod ParedSpines
mod Following
mod ErasedArguments
pub mod KeptValues
