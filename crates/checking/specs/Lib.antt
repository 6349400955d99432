-- What the contracts of the check cite.
pub mod Tested
