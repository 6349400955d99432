-- What the contracts of the text left, and of those that ask for a policy that was read, cite.
pub mod Flags
pub mod Copied
pub mod Held
