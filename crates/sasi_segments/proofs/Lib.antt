pub mod Sorting
pub mod Order
pub mod TermsInBytes
pub mod Prefixes
pub mod PrefixOrder
