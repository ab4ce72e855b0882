pub mod NextTerm
pub mod Kits
