pub mod Progress
pub mod Checkers
pub mod Applied
pub mod BodyPass
pub mod Verdicts
