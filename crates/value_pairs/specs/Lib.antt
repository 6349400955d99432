-- What the contracts of value_pairs cite.
pub mod Lines
pub mod Held
