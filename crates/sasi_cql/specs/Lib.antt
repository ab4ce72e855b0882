pub mod Finds
pub mod ModelTokens
pub mod Parts
pub mod SplitterState
pub mod TableItems
