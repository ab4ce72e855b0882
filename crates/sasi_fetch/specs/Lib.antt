pub mod Printing
pub mod Cursors
