-- Laws that the proofs of the header cite.
mod HeaderLines
mod HeaderLoop
