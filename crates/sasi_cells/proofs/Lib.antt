pub mod Laws
mod MergedSorted
mod Merges
mod Positions
mod Partitions
