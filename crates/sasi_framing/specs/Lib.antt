pub mod Framing
pub mod Damages
