pub mod Cutting
pub mod Packing
pub mod Padded
pub mod Relating
pub mod Tokens
pub mod Zipped
