pub mod Sorting
pub mod Postings
pub mod Gathering
pub mod Prefixes
