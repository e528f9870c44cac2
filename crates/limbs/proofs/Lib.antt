-- `Limbs`: numbers of two limbs and shifts. `Cases`: the cases of the definitions, for the functions and for their callers.
mod Limbs
pub mod Cases
