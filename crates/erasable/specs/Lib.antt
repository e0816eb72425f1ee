pub mod PropConstructors
