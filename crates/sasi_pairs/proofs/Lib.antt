pub mod DurableFiles
pub mod SyncedFiles
pub mod Replaced
pub mod CauseLaws
pub mod IndexLaws
pub mod SealLaws
pub mod PushLaws
