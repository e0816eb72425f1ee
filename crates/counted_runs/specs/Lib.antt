pub mod FewFrames
pub mod CountedRuns
