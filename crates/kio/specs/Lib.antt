pub mod Causes
pub mod Histories
pub mod Known
pub mod Memory
pub mod Streams
