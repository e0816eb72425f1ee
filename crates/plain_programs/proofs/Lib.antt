pub mod Searched
pub mod Erased
pub mod Passed
pub mod Runs
