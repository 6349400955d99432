-- The laws that tie trimming on flags to trimming on bytes, and what the functions need to lay the text left.
pub mod Left
pub mod ByElement
pub mod Steps
pub mod Next
pub mod Kept
pub mod Trimmed
pub mod Table
pub mod ByPlace
pub mod Placed
pub mod Copying
pub mod Tabled
pub mod Whole
pub mod Steadying
pub mod Held
