pub mod Format
pub mod Files
pub mod Calls
pub mod Writing
pub mod Causes
