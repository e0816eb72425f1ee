pub mod Derived
pub mod Meaning
