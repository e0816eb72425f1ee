pub mod Bounded
pub mod Peaks
