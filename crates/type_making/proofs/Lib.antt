pub mod Grouping
pub mod Starting
pub mod MadeLists
pub mod MadeMatches
pub mod Forgetting
pub mod MadePendings
