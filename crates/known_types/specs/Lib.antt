pub mod Sites
pub mod Located
pub mod Knowing
pub mod Raising
