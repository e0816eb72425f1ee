pub mod CallEvaluation
pub mod Laws
