-- What the contracts of trimming rule by rule cite.
pub mod Shown
