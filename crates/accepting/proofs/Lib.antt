-- Laws that the proofs of accepting cite.
mod Lines
mod Judging
mod Refusing
