-- Laws that the proofs of attribute lines cite, and those of all who read lines.
pub mod Parts
pub mod Beginning
pub mod LineKinds
pub mod AttributeLines
pub mod TreeShape
pub mod ObligationShape
pub mod Remaining
