pub mod Ready
pub mod Entering
pub mod Pending
pub mod Unread
