-- Laws of places in a line.
pub mod Places
