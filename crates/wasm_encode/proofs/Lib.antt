pub mod Fewer
pub mod Fewest
pub mod Locals
pub mod Putting
pub mod Sections
