pub mod Sources
pub mod Rows
pub mod Optional
pub mod inside
