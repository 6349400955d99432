-- The laws that the functions' proofs cite.
pub mod Rows
pub mod Above
pub mod Children
pub mod Words
