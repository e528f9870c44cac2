-- What is right: the rules of document 01 over books, as functions that compute. A reader believes these files.
-- Read them in this order. Quoted words are document 01's; names such as `pay_out` are functions of the Rust.
pub mod Limits
pub mod Terms
pub mod Table
pub mod Calls
pub mod Books
pub mod Sharing
pub mod Operations
pub mod Answers
pub mod Stakes
pub mod Payouts
pub mod Settings
pub mod Step
pub mod Queries
pub mod Formed
-- Statements over the definitions, which proofs/ proves: a reader needs to know what they say.
pub mod Refusals
pub mod Samples
pub mod Figures
pub mod Slips
pub mod AccruedShown
pub mod Order
pub mod Worked
pub mod inner
