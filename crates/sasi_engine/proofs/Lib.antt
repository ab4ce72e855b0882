mod TokenTests
pub mod Served
mod Adding
mod KeySearch
mod FoundLaws
mod WordLaws
mod FileLaws
mod Leaving
mod KeyTests
mod GroupTests
pub mod Runs
pub mod Looked
pub mod EntryTests
mod IndexLevels
mod Opening
mod Paying
pub mod Places
pub mod KeyPlaces
pub mod TokenCandidates
mod TokenTaking
mod MapFinding
pub mod CandidateOrder
pub mod HandKeys
pub mod TokenRuns
mod PartFinding
pub mod LookCosts
pub mod WorldLaws
mod TurnedLaws
mod OwingLaws
mod LookedLaws
mod SourceCalls
pub mod NewLaws
mod HandLaws
mod TurnLaws
mod StepLaws
mod KeyedEntries
mod KeyedTurns
mod KeyedFinding
mod KeyedCalls
mod KeyedWorld
