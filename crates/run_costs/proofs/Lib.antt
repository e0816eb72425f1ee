pub mod Quiet
pub mod QuietReduction
pub mod QuietRules
pub mod Takes
pub mod TakesTyping
pub mod Measured
