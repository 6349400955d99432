-- Laws that the proofs of the writer cite.
mod Texts
mod Kept
mod Writer
