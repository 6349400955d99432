-- The paper's cases, computed.
pub mod Cases
pub mod Rows
pub mod Capitals
pub mod Conflicts
pub mod Sets
pub mod ValuePairs
pub mod RuleByRule
pub mod HeldState
pub mod Accepting
pub mod Joining
pub mod Stepping
pub mod Outcomes
pub mod Obligations
