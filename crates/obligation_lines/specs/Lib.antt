-- What the contracts of obligations' lines cite.
pub mod Obligations
