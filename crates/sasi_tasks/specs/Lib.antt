pub mod Tasks
pub mod Running
pub mod MakesTaskMoves
pub mod Unheld
