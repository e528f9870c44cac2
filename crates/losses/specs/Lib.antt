-- What sharing a loss asks, answers and leaves (Loss), and the contracts of private functions (inner).
pub mod Loss
pub mod inner
