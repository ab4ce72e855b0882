pub mod Sources
pub mod Held
pub mod Merges
pub mod MergeDamages
