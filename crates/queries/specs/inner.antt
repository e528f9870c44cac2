-- What the contracts of private functions cite: no reader needs to believe it.
pub mod Gate
pub mod Question
