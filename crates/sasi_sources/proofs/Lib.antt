pub mod Printables
mod KeyGiving
mod ScanGiving
