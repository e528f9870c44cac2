-- Laws that callers cite.
-- `Pools`: the four pools. Generic over the row type: `Lists` (a table's rows as a list, found and put), `Flat` (rows written as words, and the words after a row is put),
-- `Back` (rows written and read back), `RowKinds` (all of it for a kind of rows), `Walks` (one pass over the used rows of any words).
-- `StakeRows`: stake rows. `OfferRows`: what the test of an offer row says. `PoolPlaces`: where a pool's rows lie. `Counts`: the number of used rows. `Signs`: words compared as numbers.
-- `Good`: what good tables hold, and words and books there and back. `Writing`: the figures, and the words after a call. `Opened`: a fresh set.
-- `Parts`: the table test, part by part. `Accruals`: a row's accrual as banked. `Carried`: a call on words and on their books.
pub mod Pools
pub mod Lists
pub mod Flat
pub mod Back
pub mod RowKinds
pub mod Counts
pub mod Signs
pub mod StakeRows
pub mod OfferRows
pub mod PoolPlaces
pub mod Good
pub mod Writing
pub mod Opened
pub mod Walks
pub mod Parts
pub mod Accruals
pub mod Carried
