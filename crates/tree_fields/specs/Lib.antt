-- What the contracts of a tree line's fields cite.
pub mod Headed
pub mod Masks
