pub mod Unfolding
pub mod Replacing
pub mod Known
