pub mod Checked
pub mod Files
pub mod Refusals
