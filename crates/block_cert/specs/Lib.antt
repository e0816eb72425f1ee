pub mod BlockWalks
