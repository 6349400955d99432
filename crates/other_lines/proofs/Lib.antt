-- Laws that the proofs of other_lines cite.
mod Walking
