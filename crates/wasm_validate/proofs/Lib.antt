pub mod Labels
pub mod Taking
pub mod Stopping
pub mod Reading
pub mod Naming
pub mod Sections
pub mod Faults
