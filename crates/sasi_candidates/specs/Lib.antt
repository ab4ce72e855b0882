pub mod Parts
pub mod Candidates
pub mod Checks
pub mod Reading
pub mod LayoutParts
pub mod Searches
pub mod Groups
pub mod Costs
