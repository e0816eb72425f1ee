pub mod AcceptedProgram
pub mod EveryRun
pub mod GrantsAll
pub mod Headline
pub mod SourceWords
pub mod WrittenData
