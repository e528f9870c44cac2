-- A loss shared over the rows of one pool, on words: what it asks, what it answers and which words it leaves.
use Rattle.std.specs.Prelude.{cond, List, ◌≡◌, ℕ, ◌≤◌, ◌<◌, pos, length, Result, Ok, Err}
use Rattle.rules.specs.declared.refusal.Refusal.{Refusal}
use Rattle.rules.specs.declared.refusal.Refusal.TheVariants.{OverLimit}
use Rattle.rules.specs.Limits.{limit, most_stakes}
use Rattle.rules.specs.Table.{sum_of}
use Rattle.rules.specs.Books.{StakeRow}
use Rattle.rules.specs.Formed.{stake_in}
use Rattle.rules.specs.Sharing.{shared, stakes_fit}
use Rattle.books.specs.Layout.{pools, stake_width}
use Rattle.books.specs.Tables.{room_of, table_of, table_words}
use Rattle.books.specs.Words.{stake_row_at, stake_words}

-- a loss that can be shared over the pool's stakes, whose sum is the balance
pub record Shareable (pool loss balance : ℕ) (rows : List StakeRow) : Type 0 where
  pub few : length rows ≤ most_stakes
  pub pool-is : pool < pools
  pub some : 1 ≤ loss
  pub within : loss ≤ limit
  pub most : loss ≤ balance
  pub sum : pos balance ≡ sum_of (stake_in pool) rows

-- the stake rows after it: the rules', of the rows that the words hold
abbrev pub after : List ℕ → ℕ → ℕ → ℕ → List StakeRow
after s pool loss balance = shared pool loss balance (table_of stake_row_at stake_width s)

-- what a loss answers, the number of rows then used, and the words that it leaves: all as before where a stake would pass its limit
abbrev pub answer : List StakeRow → Result ℕ Refusal
answer rows = cond (stakes_fit rows) (Ok (length rows)) (Err OverLimit)

abbrev pub left : List ℕ → List StakeRow → List ℕ
left s rows = cond (stakes_fit rows) (table_words stake_words stake_width (room_of stake_width s) rows) s
