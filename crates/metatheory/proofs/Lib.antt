pub mod EmptyFamilies
pub mod Alike
pub mod Simulated
pub mod Meeting
pub mod Principal
pub mod Negative
pub mod EndlessCalls
pub mod Untypable
