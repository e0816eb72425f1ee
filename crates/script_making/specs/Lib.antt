pub mod Makes
pub mod Sides
pub mod Comparing
