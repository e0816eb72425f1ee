pub mod HostedCall
pub mod EveryCall
pub mod CallHeadline
