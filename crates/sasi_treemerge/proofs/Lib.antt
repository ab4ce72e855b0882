pub mod PairOrder
pub mod Disorder
pub mod Merging
pub mod Holding
pub mod Taking
pub mod Stepping
