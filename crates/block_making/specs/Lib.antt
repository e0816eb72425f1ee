pub mod BlockMaking
pub mod BlockMakes
