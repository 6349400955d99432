-- What the contracts of chains cite.
pub mod Chain
