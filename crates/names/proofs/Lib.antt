-- Laws of names in fields.
pub mod Bytes
pub mod Letters
pub mod Fields
pub mod Ends
