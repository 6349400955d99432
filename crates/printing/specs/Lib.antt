-- What the contracts of printing cite.
pub mod Wrote
pub mod Puts
pub mod Decisions
pub mod Fitted
