pub mod Chains
pub mod ClosingLemmas
pub mod Ranks
pub mod Refuting
pub mod Tables
pub mod PlacesLemmas
