pub mod Closure
pub mod Constrained
pub mod Fault
pub mod Listed
pub mod Spans
pub mod Table
