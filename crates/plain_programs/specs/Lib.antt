pub mod PlainEnvironment
pub mod PlainProgram
pub mod Laws
