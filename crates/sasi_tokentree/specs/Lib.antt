pub mod Format
pub mod Heights
pub mod Damages
pub mod Writes
pub mod Reads
pub mod Scans
