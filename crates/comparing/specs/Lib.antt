-- What the contracts of comparing cite.
pub mod Words
