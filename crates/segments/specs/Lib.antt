-- What the contracts of segments cite.
pub mod Across
pub mod Sizes
pub mod Turning
pub mod Chains
