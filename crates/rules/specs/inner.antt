-- What only contracts of inner functions and proofs speak of.
pub mod Accrued
pub mod Facts
pub mod Passed
