pub mod OneView
