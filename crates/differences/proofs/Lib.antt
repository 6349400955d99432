-- The laws that the functions' proofs cite.
pub mod Apart
pub mod Blocks
pub mod Words
pub mod Likes
pub mod Marking
