pub mod Jobs
pub mod Line
pub mod Numbers
