pub mod Making
pub mod PendingMaking
