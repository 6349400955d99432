-- What the contracts of accepting cite.
pub mod Judged
