-- Laws that the proofs of asking cite.
mod FieldWalk
