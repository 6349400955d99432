-- Laws that the proofs of trimming rule by rule cite.
mod Shown
mod Struck
