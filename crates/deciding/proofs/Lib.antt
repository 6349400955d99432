-- What the proofs of deciding share.
pub mod Telling
