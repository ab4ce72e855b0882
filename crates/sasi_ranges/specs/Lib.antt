pub mod Entries
pub mod Lists
pub mod StreamCalls
pub mod EachStream
pub mod inside
