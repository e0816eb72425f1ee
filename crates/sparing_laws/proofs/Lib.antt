pub mod Included
pub mod Evidence
pub mod Results
pub mod Keeping
pub mod Reading
pub mod OneData
pub mod LemmaKeeping
pub mod LemmaValues
