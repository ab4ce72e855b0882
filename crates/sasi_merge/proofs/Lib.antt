pub mod LeastKeys
pub mod Streams
