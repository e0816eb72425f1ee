pub mod Steps
pub mod Atoms
pub mod Numbers
pub mod Depths
pub mod Lists
pub mod Maps
pub mod Declarations
pub mod Chains
