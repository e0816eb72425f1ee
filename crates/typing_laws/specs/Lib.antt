pub mod TypedParts
pub mod Substituting
pub mod Laws
