pub mod Postings
pub mod IndexFiles
