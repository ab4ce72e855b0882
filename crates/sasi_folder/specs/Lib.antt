pub mod Replay
pub mod FolderContents
pub mod Damages
pub mod Opens
