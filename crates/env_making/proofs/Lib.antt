pub mod Placing
pub mod Declaring
pub mod Whole
pub mod Certifying
