-- Laws for this floor and those above it. `Linear`: how `omega` reads ℤ. `Words`: two's complement.
-- `Sums`: sums over lists and rows. `Shares`: multiply-and-divide by its parts.
pub mod Linear
pub mod Words
pub mod Sums
pub mod Shares
