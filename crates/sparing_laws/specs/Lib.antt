pub mod SparingEvaluation
pub mod Laws
pub mod LemmaEvaluation
pub mod LemmaLaws
