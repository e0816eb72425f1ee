pub mod CallValues
pub mod Laws
pub mod Texts
pub mod ArgumentForm
pub mod Meaning
