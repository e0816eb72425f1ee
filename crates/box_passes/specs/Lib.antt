pub mod PropMatch
pub mod Saturate
pub mod SaturateLaws
pub mod PassLaws
pub mod Maps
pub mod Heads
pub mod PassResults
