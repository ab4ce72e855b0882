mod ContentLaws
mod SearchLaws
mod FileLaws
mod PartitionLaws
mod TurnLaws
mod FindLaws
mod LookupLaws
mod MakingLaws
pub mod CostLaws
pub mod Keeping
