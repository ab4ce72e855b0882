pub mod Costs
mod Steps
mod Moves
mod KeyOrder
mod Advancing
pub mod Openings
pub mod Pages
pub mod KeyLookups
mod KeyFinding
mod NumberedMaps
