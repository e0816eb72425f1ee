pub mod Tests
pub mod Continuing
pub mod Entering
pub mod Progress
pub mod Consequences
