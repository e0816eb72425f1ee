pub mod Puts
pub mod Sections
pub mod Shortest
