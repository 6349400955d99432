-- What the contracts of names cite.
pub mod Letters
pub mod Ends
