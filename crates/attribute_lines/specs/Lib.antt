-- What the contracts of attribute lines cite, and those of all who read lines.
pub mod Sofar
pub mod Laid
pub mod Steps
