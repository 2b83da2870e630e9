-- R as standard input gives it.
pub mod Input
