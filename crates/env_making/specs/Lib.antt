pub mod Certified
pub mod Refusals
pub mod Placing
pub mod EnvMaking
