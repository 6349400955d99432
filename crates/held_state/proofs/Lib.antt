-- Laws that the proofs of a held state cite.
mod Gap
mod Moving
mod Stepping
