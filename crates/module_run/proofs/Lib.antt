pub mod OneRun
pub mod OneEnd
pub mod Ending
pub mod CallEnding
pub mod Returning
pub mod OneFileEnd
pub mod FileStages
