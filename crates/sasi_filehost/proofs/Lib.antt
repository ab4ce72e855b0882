pub mod HostCalls
pub mod Kept
