-- What the contracts of this floor say.
pub mod MulDiv
