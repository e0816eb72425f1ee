pub mod Finding
pub mod Beginning
pub mod Entries
pub mod Declaring
pub mod Fixing
pub mod GuardConditions
mod Answering
pub mod MatchLists
pub mod Matching
pub mod Steps
pub mod Pendings
pub mod Sorts
pub mod ClosedPendings
pub mod MadeTypes
