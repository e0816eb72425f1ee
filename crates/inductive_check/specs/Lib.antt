pub mod Arguments
pub mod Given
pub mod Waiting
