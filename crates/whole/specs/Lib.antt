-- What the contracts of this floor and of those above it say of signed numbers.
pub mod Whole
pub mod Shares
pub mod Sums
