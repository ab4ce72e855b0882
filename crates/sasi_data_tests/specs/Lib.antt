pub mod Ready
pub mod Scan
