pub mod Making
pub mod Items
pub mod Defaults
pub mod Comparing
