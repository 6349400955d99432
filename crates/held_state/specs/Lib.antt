-- What the contracts of a held state cite.
pub mod Closed
