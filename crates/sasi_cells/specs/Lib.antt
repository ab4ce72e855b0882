pub mod Entries
pub mod EntryView
pub mod Positions
pub mod Changes
pub mod Maps
pub mod Mutations
pub mod Rows
pub mod Typed
