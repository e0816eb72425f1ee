pub mod Arguments
pub mod Marks
pub mod Tasks
pub mod Walks
