pub mod MaximumLemmas
pub mod OverLemmas
pub mod Placing
pub mod Raising
