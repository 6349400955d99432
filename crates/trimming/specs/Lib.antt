-- What the contracts of trimming cite.
pub mod Decided
pub mod Known
pub mod Trims
