-- The laws that the functions' proofs cite.
pub mod Rules
pub mod Beside
pub mod Turns
