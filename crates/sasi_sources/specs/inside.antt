pub mod KeyLaws
pub mod ScanLaws
