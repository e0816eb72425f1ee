pub mod Tells
pub mod Marks
pub mod Waiting
pub mod Storing
