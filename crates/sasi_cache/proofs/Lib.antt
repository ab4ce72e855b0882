mod Forgotten
mod Kept
