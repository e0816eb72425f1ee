mod Numbers
mod Counts
pub mod Longer
mod Giving
mod Worlds
