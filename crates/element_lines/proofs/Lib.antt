-- Laws that the proofs of tree lines cite.
mod ElementTests
mod TreeLines
mod TreeSteps
