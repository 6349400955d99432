-- What the contracts of joined_attributes cite.
pub mod Placing
