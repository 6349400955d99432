-- What the contracts of treelines cite.
pub mod Writable
