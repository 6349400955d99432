-- What the contracts of tree lines cite.
pub mod Elements
