pub mod Plans
pub mod Begun
pub mod Reading
pub mod Answers
pub mod inside
pub mod Lacking
pub mod Faults
