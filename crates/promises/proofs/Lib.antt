-- What the rules promise. The theorems: `Figures`, `Refused`, `Formed` and `Alone` (of one call), `Accrued` (of a query), `Lookups` (of a lookup), `Granted`, `Cover` and `Sharing` (over
-- histories from a fresh set), `Words` (of the words that hold the books), and `GrantedOnWords`, `CoverOnWords` and `SharingOnWords` (over histories
-- of words). The other files are their proofs.
pub mod Pools
pub mod Rows
pub mod Reached
pub mod Alone
pub mod Along
pub mod Figures
pub mod Accrued
pub mod Lookups
pub mod Refused
pub mod Formed
pub mod Offers
pub mod Granted
pub mod Covering
pub mod Falls
pub mod Claimed
pub mod Cover
pub mod Rounding
pub mod Losing
pub mod Fairly
pub mod Sharing
pub mod Words
pub mod GrantedOnWords
pub mod CoverOnWords
pub mod SharingOnWords
