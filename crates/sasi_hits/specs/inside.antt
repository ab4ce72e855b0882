pub mod Rising
pub mod Moving
pub mod KeepingKeys
pub mod KeepingHits
