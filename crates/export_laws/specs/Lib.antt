pub mod ModuleForCalls
pub mod Laws
