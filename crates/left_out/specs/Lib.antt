-- What the contract of leaving out cites.
pub mod Leaving
