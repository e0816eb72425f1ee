pub mod Words
pub mod Explanation
pub mod Adding
