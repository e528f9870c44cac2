-- What a call asks (Rates), and the contracts of private functions (inner).
pub mod Rates
pub mod inner
