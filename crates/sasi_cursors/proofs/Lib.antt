pub mod Agreement
mod Seen
