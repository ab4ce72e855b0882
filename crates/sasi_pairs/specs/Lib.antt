pub mod SeenPairs
pub mod Gathered
pub mod PairViews
pub mod SealedFiles
