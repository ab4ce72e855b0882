pub mod NumberOrder
pub mod Percents
pub mod Searches
