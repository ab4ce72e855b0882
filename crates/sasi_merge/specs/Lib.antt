pub mod Merging
pub mod Least
pub mod Streams
