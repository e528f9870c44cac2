-- A reader believes `Rows`, `Lookup` and, for the promise on lookups, `LookupShown`; what functions on rows ask and say is in `inner`.
pub mod Rows
pub mod Lookup
pub mod LookupShown
pub mod inner
