-- Laws of laying down and of blocks of requests.
pub mod Laying
pub mod Searching
pub mod Blocks
pub mod LayingOutcomes
