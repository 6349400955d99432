-- What the contracts of outcomes cite.
pub mod Decided
pub mod PolicyTable
pub mod Changes
