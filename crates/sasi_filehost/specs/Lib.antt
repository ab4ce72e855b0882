pub mod OpenFiles
pub mod RealFiles
pub mod HostCounts
