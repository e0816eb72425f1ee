pub mod Bodies
pub mod Findings
pub mod Heads
pub mod FoundRuns
pub mod WalkRuns
pub mod Guarded
mod BlockRuns
mod Endings
