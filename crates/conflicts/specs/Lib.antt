-- What the contracts of conflicts cite.
pub mod Pairs
