pub mod Reduction
pub mod Comparison
pub mod Inference
pub mod Guard
pub mod Declarations
pub mod Counts
pub mod Lambdas
pub mod Erasability
