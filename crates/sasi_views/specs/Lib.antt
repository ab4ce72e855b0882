pub mod Components
pub mod ComponentLaws
pub mod Parts
pub mod Books
pub mod Changes
pub mod Kept
pub mod inside
