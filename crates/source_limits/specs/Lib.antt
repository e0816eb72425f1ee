pub mod LambdaBinders
pub mod NormalBinders
pub mod SourceNodes
pub mod PassedSizes
pub mod Laws
