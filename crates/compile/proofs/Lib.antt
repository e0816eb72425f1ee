pub mod Within
pub mod Emitting
pub mod Starting
pub mod CallStarting
