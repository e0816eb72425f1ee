pub mod Replaced
pub mod Beyond
pub mod Codomains
pub mod Applying
pub mod Telescopes
pub mod Definitions
pub mod Parts
pub mod KnownFamilies
