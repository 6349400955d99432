-- What the contracts of a request line cite.
pub mod Asked
