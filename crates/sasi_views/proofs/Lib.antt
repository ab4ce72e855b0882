pub mod BookLaws
mod StepLaws
mod Listing
mod BookChanges
mod DeadLaws
mod DeadBounds
