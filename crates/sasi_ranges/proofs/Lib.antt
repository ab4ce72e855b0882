pub mod Calling
pub mod ListLaws
mod Filling
mod Least
mod Sets
mod Meeting
mod Agreeing
mod Taking
mod Rising
mod Making
mod Uniting
