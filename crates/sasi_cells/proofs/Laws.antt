-- What is true of the newest of two cells, of merges, and of maps of partitions.
pub mod Newest
pub mod Sorted
pub mod Merged
pub mod Times
pub mod Typed
pub mod Decorated
pub mod Maps
