-- Laws that the proofs of leaving out cite.
pub mod Turns
pub mod Text
pub mod Flags
pub mod RuleMarks
pub mod Ahead
pub mod Complete
