pub mod Rules
pub mod Places
pub mod Answers
pub mod Steps
pub mod Beginning
