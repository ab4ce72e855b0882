pub mod Answers
pub mod Checks
pub mod Defined
pub mod Faults
pub mod IndexFacts
pub mod Numbers
pub mod SchemaViews
