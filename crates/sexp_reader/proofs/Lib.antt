pub mod Steps
pub mod Layouts
pub mod Rising
