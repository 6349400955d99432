-- The laws that the functions' proofs cite, and the tie to the meaning's outcome.
pub mod Texts
pub mod Left
