-- What the contracts of the reader cite.
pub mod Laid
pub mod Told
