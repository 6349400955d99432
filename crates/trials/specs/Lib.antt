-- What the contracts of trying a rule cite.
pub mod Decided
pub mod Steady
pub mod Trial
