pub mod Filled
pub mod BoxRuns
pub mod Following
pub mod Answered
pub mod LemmasFollowed
pub mod OverLemmas
