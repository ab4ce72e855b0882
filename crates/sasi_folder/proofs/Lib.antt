pub mod Reached
pub mod FolderLaws
pub mod FolderChanges
pub mod Recording
pub mod Creating
pub mod Defining
pub mod IndexEnds
