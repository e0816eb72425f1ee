pub mod Leading
pub mod Nodes
pub mod Settling
pub mod Lefts
pub mod Ending
pub mod Unfolded
pub mod Shallow
pub mod Answered
