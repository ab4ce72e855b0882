pub mod Adding
pub mod Terms
pub mod Contents
pub mod ListTests
pub mod Rising
pub mod Counts
pub mod Modes
