pub mod EnvWalks
pub mod Verified
pub mod Beginning
