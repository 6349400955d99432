-- What the contracts of obligations cite.
pub mod Given
