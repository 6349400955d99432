-- Laws that the proofs of the check cite.
mod Zeros
mod Names
mod Masks
mod Earlier
mod Told
mod Obliged
mod Walk
