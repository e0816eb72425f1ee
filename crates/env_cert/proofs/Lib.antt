pub mod Halted
pub mod Begun
pub mod Declaring
pub mod Whole
