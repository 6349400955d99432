-- Laws that the proofs of a tree line's fields cite.
mod Heading
pub mod TargetWalk
