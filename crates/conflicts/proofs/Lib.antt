-- Laws of the pairs and of the request that shows each.
pub mod PairSteps
pub mod Showing
