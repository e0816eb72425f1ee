pub mod ReadCounts
