-- Laws that the proofs of the operations cite; those of a policy's shape serve the vectors program too.
mod Deciding
mod Refusing
pub mod Shaping
mod Trimming
mod Operate
mod Demand3
mod SameReports
mod TellsPairs
mod RuleByRule
mod Calls
mod HeldState
mod Accepting
mod Joining
mod Holding
mod Pairing
