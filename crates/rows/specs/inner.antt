-- Definitions that only contracts of functions on rows and proofs speak of.
pub mod Order
pub mod Moves
