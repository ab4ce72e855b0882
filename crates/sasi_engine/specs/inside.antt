pub mod Found
pub mod Sources
pub mod Steps
pub mod KeyedSteps
pub mod SourceLaws
