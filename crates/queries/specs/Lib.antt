-- The definitions that the contracts of this floor cite.
pub mod Queries
pub mod Asking
pub mod Lookups
pub mod inner
