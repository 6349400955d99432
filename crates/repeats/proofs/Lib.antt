-- Laws of fields that stand twice.
pub mod Fields
pub mod Marking
pub mod Backward
pub mod Repeats
