-- What a call asks (Staking), and the contracts of private functions (inner).
pub mod Staking
pub mod inner
