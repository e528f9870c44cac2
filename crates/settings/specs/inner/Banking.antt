-- The rows as setting the rate banks them.
use Rattle.std.specs.Prelude.{◌≡◌, List, [], map, ℕ, ◌≤◌, ◌<◌, get_or, Result, MatchResult}
use Rattle.rows.specs.Rows.{word}
use Rattle.rules.specs.Limits.{limit, last_time, greatest_rate, flat}
use Rattle.rules.specs.Books.{StakeRow}
use Rattle.rules.specs.declared.refusal.Refusal.{Refusal}
use Rattle.rules.specs.declared.refusal.Refusal.TheVariants.{OverLimit}
use Rattle.rules.specs.Settings.{banked_row}
use Rattle.books.specs.Layout.{rate_word, stake_width, pool_word}
use Rattle.books.specs.Tables.{table_of}
use Rattle.books.specs.Words.{tables, stake_row_at, books_of}
use Rattle.books.specs.declared.stakes.Stake.{Stake}
use Rattle.books.specs.inner.Held.{HeldStakes, stake_of}

-- a row as it is banked: of the tables only the books have a part in it, which hold the rate
abbrev pub banked_by : List ℕ → ℕ → StakeRow → StakeRow
banked_by b time r = banked_row (books_of (tables [] [] b)) time r

-- what banking a row answers: the row as it is banked, its accrual within its limit, or that it would pass it
abbrev pub BankedAs : List ℕ → ℕ → StakeRow → Result Stake Refusal → Type 0
BankedAs b time r answer =
    MatchResult answer (λ row. (stake_of row ≡ banked_by b time r) × ((stake_of row).accrual ≤ limit))
    (λ reason. (reason ≡ OverLimit) × (limit < (banked_by b time r).accrual))

-- the used rows as they are banked
abbrev pub banked_rows : List ℕ → List ℕ → ℕ → List StakeRow
banked_rows s b time = map (banked_by b time) (table_of stake_row_at stake_width s)

-- what banking all rows asks: n rows in order, none of the flat pool before row `from`, a rate and a time within their limits
pub record CanBank (s b : List ℕ) (from n time : ℕ) : Type 0 where
  pub held : HeldStakes s n
  pub most : from ≤ n
  pub below : (j : ℕ) → j < from → word s stake_width j pool_word < flat
  pub rate : get_or b rate_word 0 ≤ greatest_rate
  pub time-is : time ≤ last_time
