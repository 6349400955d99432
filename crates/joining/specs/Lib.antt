-- What the contracts of joining cite.
pub mod Held
