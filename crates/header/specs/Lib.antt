-- What the contracts of the header cite.
pub mod Among
pub mod Told
