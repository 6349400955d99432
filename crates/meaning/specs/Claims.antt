-- What holds, by subject, in the paper's order; `Promises` gathers it, and the crate `laws` proves it. Each claim is said apart
-- from the definition that it speaks of, so that a reader who believes only the claims is safe.
pub mod Texts
pub mod PolicyFile
pub mod Refusals
pub mod Writing
pub mod WriterRefusals
pub mod Sets
pub mod Requests
pub mod Standard
pub mod Deciding
pub mod Segments
pub mod ReportLines
pub mod Trimming
pub mod ValuePairs
pub mod RuleByRule
pub mod HeldState
pub mod Accepting
pub mod Joining
pub mod Operations
pub mod Promises
