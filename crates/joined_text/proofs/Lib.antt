-- Laws that the proofs of joined_text cite.
mod Header
mod Targets
mod Rows
mod Walk
mod Joined
mod Placed
