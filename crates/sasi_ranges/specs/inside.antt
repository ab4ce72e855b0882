pub mod Heads
pub mod Unions
pub mod Meets
pub mod Keeping
