-- Laws of an obligation's line, for its proofs and the reader's.
mod ObligationTests
mod ObligationSteps
pub mod ObligationLines
