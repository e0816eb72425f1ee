pub mod Derived
pub mod MainsModule
pub mod Laws
