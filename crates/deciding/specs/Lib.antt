-- What the contracts of deciding cite.
pub mod Told
