pub mod Format
pub mod LogPosition
pub mod Damages
pub mod Reads
pub mod Faults
