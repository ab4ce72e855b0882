pub mod Payloads
pub mod Laws
pub mod ReadMutations
