-- The laws that the functions' proofs cite.
pub mod Strikes
pub mod Knowing
