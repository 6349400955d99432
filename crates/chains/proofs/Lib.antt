-- The laws that the functions' proofs cite, and what the bits say of the meaning's elements.
pub mod Words
pub mod Places
pub mod Marking
pub mod Fitting
pub mod Chained
