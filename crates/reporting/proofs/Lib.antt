-- Laws that the proofs of reporting cite.
mod Searched
mod Applying
mod ChildPlaces
mod Giving
mod SegmentText
mod ConflictText
pub mod StruckText
pub mod ReportText
mod Finding
