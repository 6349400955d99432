-- What the contracts of joined_text cite.
pub mod Lines
