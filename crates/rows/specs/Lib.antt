-- What the contracts of rows cite.
pub mod Words
pub mod Rows
