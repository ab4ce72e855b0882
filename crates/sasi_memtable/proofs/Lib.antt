pub mod Ordered
mod Merged
mod Counts
