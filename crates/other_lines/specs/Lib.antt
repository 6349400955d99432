-- What the contracts of other_lines cite.
pub mod Told
