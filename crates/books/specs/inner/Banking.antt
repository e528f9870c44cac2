-- What banking a row's yield asks of the books' words and of the row.
use Rattle.std.specs.Prelude.{List, ℕ, ◌≤◌, get_or}
use Rattle.rules.specs.Limits.{limit, last_time, greatest_rate, flat}
use Rattle.books.specs.Layout.{rate_word}

pub record Bankable (b : List ℕ) (pool time accrual : ℕ) : Type 0 where
  pub rate : get_or b rate_word 0 ≤ greatest_rate
  pub pool-is : pool ≤ flat
  pub time-is : time ≤ last_time
  pub accrued : accrual ≤ limit
