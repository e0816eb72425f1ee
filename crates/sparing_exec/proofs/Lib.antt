pub mod Answering
pub mod Owing
