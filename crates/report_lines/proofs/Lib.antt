-- Laws that the proofs of lines cite.
mod Names
mod LineTexts
mod PairTexts
