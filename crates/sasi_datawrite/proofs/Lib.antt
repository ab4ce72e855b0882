pub mod WritingLaws
pub mod Laws
pub mod Appends
pub mod Pushes
pub mod Footers
