mod Winners
pub mod Hits
pub mod Answers
pub mod ReadingLaws
pub mod PairLists
mod PostingTests
pub mod FileHits
pub mod FileIndexes
pub mod Asking
pub mod GroupLaws
pub mod CostLaws
pub mod PairCounts
mod Examples
