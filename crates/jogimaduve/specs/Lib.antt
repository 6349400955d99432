-- What the contracts of the operations cite beyond the meaning.
pub mod Told
