pub mod MemtableView
pub mod Sizes
pub mod Sized
