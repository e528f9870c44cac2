-- What a call asks (Payouts), and the contracts of private functions (inner).
pub mod Payouts
pub mod inner
