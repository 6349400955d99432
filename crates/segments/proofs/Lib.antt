-- The laws that the functions' proofs cite, and those of the words that callers cite.
pub mod Columns
pub mod Turning
pub mod Sizing
mod Chains
