pub mod Arguments
pub mod Made
