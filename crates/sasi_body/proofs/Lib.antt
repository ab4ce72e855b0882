pub mod Values
pub mod TypedValues
pub mod FitCells
pub mod Rising
pub mod FitBodies
pub mod FittingBodies
pub mod BodyBytes
pub mod Bodies
