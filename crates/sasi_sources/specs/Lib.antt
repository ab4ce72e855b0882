pub mod Maps
pub mod KeyCandidates
pub mod ScanCandidates
pub mod inside
