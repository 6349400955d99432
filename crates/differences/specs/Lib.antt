-- What the contracts of differences cite.
pub mod Apart
pub mod Marks
