pub mod Narrowing
pub mod inside
