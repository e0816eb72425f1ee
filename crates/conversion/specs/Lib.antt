pub mod Comparable
pub mod Modes
