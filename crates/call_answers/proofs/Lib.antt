mod Narrowing
mod SpineAnswers
mod StoredTrees
pub mod CalledPrograms
pub mod Composed
