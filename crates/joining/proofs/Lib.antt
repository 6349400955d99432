-- Laws that the proofs of joining cite.
pub mod Starts
mod Told
