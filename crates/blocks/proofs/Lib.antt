-- The laws that the functions' proofs cite.
pub mod Combining
pub mod Words
pub mod Replying
pub mod LowBits
