-- What the contracts of table, and those of the crates that work on it, cite.
pub mod Rows
pub mod Tree
pub mod Shape
pub mod Words
