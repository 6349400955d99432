-- Laws that the proofs of joined_attributes cite.
mod Differing
mod Listing
