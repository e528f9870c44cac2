-- A loss of a pool.
use Rattle.std.specs.Prelude.{◌≡◌, true, cond, ℕ, ◌≤◌, ◌<◌, pos, ◌≤ℤ◌}
use Rattle.rules.specs.Limits.{limit}
use Rattle.rules.specs.Books.{balance_of}
use Rattle.rules.specs.Answers.{OverLimit}
use Rattle.rules.specs.Payouts.{after_loss, loss_over}
use Rattle.books.specs.Layout.{pools}
use Rattle.books.specs.Words.{Tables, books_of, words_of, good_tables}

-- a loss that a pool can take: at most its balance
pub record CanLose (t : Tables) (pool loss : ℕ) : Type 0 where
  pub good : good_tables t ≡ true
  pub pool-is : pool < pools
  pub some : 1 ≤ loss
  pub within : loss ≤ limit
  pub most : pos loss ≤ℤ balance_of (books_of t) pool

-- the code, by whether the stakes fit, and the words u after it: as before where they do not
pub record LossTaken (t u : Tables) (pool loss code : ℕ) : Type 0 where
  pub fits : code ≡ cond (loss_over (books_of t) pool loss) OverLimit 0
  pub words : u ≡ cond (loss_over (books_of t) pool loss) t (words_of (after_loss (books_of t) pool loss))
