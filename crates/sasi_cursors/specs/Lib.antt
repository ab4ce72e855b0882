pub mod Agreement
pub mod Cursors
pub mod Lends
