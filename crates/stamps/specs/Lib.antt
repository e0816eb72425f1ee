pub mod Number
pub mod Ownership
