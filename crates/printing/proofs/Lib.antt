-- Laws of text laid into a buffer.
pub mod Laws
pub mod Digits
pub mod Decisions
pub mod LineFields
pub mod Walks
pub mod Fitting
