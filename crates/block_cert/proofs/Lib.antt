pub mod InTurn
pub mod Passing
pub mod Sorted
pub mod Arguing
pub mod Listing
pub mod Heading
pub mod Whole
