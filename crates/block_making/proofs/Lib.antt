pub mod InTurn
pub mod Sorted
pub mod Arguing
pub mod Listing
