pub mod Terms
pub mod Numbers
pub mod Holds
pub mod Patterns
pub mod Percents
