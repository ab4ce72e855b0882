pub mod Sparse
pub mod Inline
