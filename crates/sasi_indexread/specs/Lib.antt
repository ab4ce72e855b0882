pub mod Opened
pub mod HeaderAndFooter
pub mod Asked
pub mod BoundTerms
pub mod Damages
pub mod Collects
pub mod Searches
pub mod Costs
