pub mod Filing
pub mod Listing
pub mod Meaning
pub mod Opens
pub mod Taking
