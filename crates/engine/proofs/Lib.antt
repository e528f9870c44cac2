-- `Asked`: what a call that is not malformed has, for the operations to ask.
pub mod Asked
