-- Where the rows of a pool lie, of n stake rows.
use Rattle.std.specs.Prelude.{◌≡◌, List, ℕ, ◌≤◌, ◌<◌}
use Rattle.rows.specs.Rows.{word}
use Rattle.books.specs.Layout.{stake_width, pool_word}

-- the pool's rows are the rows from .. to - 1
pub record PoolAt (s : List ℕ) (n pool from to : ℕ) : Type 0 where
  pub order : from ≤ to
  pub most : to ≤ n
  pub below : (j : ℕ) → j < from → word s stake_width j pool_word < pool
  pub mine : (j : ℕ) → from ≤ j → j < to → word s stake_width j pool_word ≡ pool
  pub above : (j : ℕ) → to ≤ j → j < n → pool < word s stake_width j pool_word

-- the pool's rows would begin at row i: the rows before it are of smaller pools, those from it on are not
pub record PoolStart (s : List ℕ) (n pool i : ℕ) : Type 0 where
  pub most : i ≤ n
  pub below : (j : ℕ) → j < i → word s stake_width j pool_word < pool
  pub above : (j : ℕ) → i ≤ j → j < n → pool ≤ word s stake_width j pool_word
