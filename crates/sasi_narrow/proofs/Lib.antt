pub mod NarrowingLaws
mod Searching
mod EntryOrder
mod Spans
mod MapKeys
mod Refs
mod Joining
