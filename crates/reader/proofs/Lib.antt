-- Laws that the proofs of the reader cite; those of a file that was read serve all who read.
mod Ends
mod Loop
pub mod FileRead
