-- Laws that the proofs of value_pairs cite.
mod SetBits
mod Finding
mod PairTexts
mod Runs
mod PairsAre
mod Told
