pub mod Files
pub mod Lookups
pub mod Reads
pub mod KeySearches
pub mod Codes
