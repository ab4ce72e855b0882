pub mod Contents
pub mod Steps
pub mod Draws
pub mod Hits
pub mod Checks
pub mod Counts
pub mod Codes
