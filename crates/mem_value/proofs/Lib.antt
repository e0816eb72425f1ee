pub mod Standing
pub mod Searching
pub mod Preorder
pub mod Steps
pub mod Stacks
pub mod Bytes
pub mod Placing
pub mod Heaps
