-- Laws that the proofs of lists cite, and demand 2.
mod Laying
mod Parts
mod Reading
mod Shapes
mod Demand2
