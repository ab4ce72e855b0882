pub mod Tasks
pub mod Listing
