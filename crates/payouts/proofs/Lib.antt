-- Laws of pay, reserve and claim on words: their first tests, what is settled, and what is written.
pub mod Openings
pub mod OfferWrites
pub mod LossWrites
pub mod PoolFigures
pub mod Payments
pub mod Grants
pub mod Claims
