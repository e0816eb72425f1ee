pub mod Listing
pub mod Parts
pub mod Defaults
pub mod Comparing
pub mod Sound
