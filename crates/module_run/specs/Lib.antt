pub mod Ends
pub mod CallEnds
pub mod Figures
pub mod RunFacts
pub mod CallFacts
pub mod EndLaws
pub mod FileEnds
pub mod FileLaws
