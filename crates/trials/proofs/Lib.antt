-- The laws that the functions' proofs cite.
pub mod Trying
pub mod Moving
pub mod Copying
pub mod Comparing
