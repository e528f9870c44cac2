-- What contracts of functions on rows cite, and proofs: no reader needs to believe it, since each call's own equation speaks of words and books.
-- `Put`: a row put at a place, as words. `Kinds`: the two kinds of rows, and `KindLaws` what holds of each (`StakeLaws`, `OfferLaws`). `Held`: rows read and put, in the rules' rows. `Passes`: the table test's passes. `Banking`: an accrual.
-- `Pool`: where a pool's rows lie.
pub mod Put
pub mod Kinds
pub mod KindLaws
pub mod StakeLaws
pub mod OfferLaws
pub mod Held
pub mod Passes
pub mod Banking
pub mod Pool
