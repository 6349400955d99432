-- Laws that the proofs of treelines cite.
mod Words
mod Values
mod TargetTexts
mod ElementLines
mod ObligationLines
