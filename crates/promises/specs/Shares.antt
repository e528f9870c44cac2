-- The terms of the promise on shares.
use Rattle.std.specs.Prelude.{◌≡◌, cond, List, [], ◌∷◌, map, ℕ, ◌+◌, ◌*◌, ◌/◌, ◌≤◌, ℤ, pos, ◌-ℤ◌, length}
use Rattle.whole.specs.Whole.{up}
use Rattle.rules.specs.Books.{Books, StakeRow, stake_at, balance_of}
use Rattle.rules.specs.Calls.{account_no}
use Rattle.rules.specs.Sharing.{sharer}
use Rattle.promises.specs.Calls.{Operation, Answer}
use Rattle.promises.specs.Reach.{holds}
use Rattle.promises.specs.Roles.{role_of}

-- what a call, so answered, took from the stakes of the pool: a direct payout or a claim answers first what it paid
abbrev pub taken_by : ℕ → Operation → Answer → ℕ
taken_by pool o a = cond (holds (role_of o).shares pool 0) (up a.first) 0

-- the pool's rows with a non-zero stake, in row order
unfoldable pub sharing : ℕ → List StakeRow → List StakeRow
sharing pool [] = []
sharing pool (r ∷ rows) = cond (sharer pool r) (r ∷ sharing pool rows) (sharing pool rows)

-- what the row's account lost between two books
abbrev pub lost : ℕ → Books → Books → StakeRow → ℤ
lost pool b after r = (stake_at b pool (account_no r.account)).stake -ℤ (stake_at after pool (account_no r.account)).stake

-- the row's exact share of a loss, rounded down
abbrev pub rounded : ℕ → ℕ → StakeRow → ℕ
rounded loss balance r = up r.stake * loss / balance

-- a sum of shares
abbrev pub sum_n : List ℕ → ℕ
sum_n [] = 0
sum_n (n ∷ ns) = n + sum_n ns

-- each but the last loses its exact share rounded down, the last the rest, which is at most n − 1 above its own rounded share; n
-- is one more than the others
pub record Fair (pool loss : ℕ) (b after : Books) (others : List StakeRow) (last : StakeRow) : Type 0 where
  pub rest : ℕ
  pub others-lose : map (lost pool b after) others ≡ map (λ (r : StakeRow). pos (rounded loss (up (balance_of b pool)) r)) others
  pub last-loses : lost pool b after last ≡ pos rest
  pub together : sum_n (map (rounded loss (up (balance_of b pool))) others) + rest ≡ loss
  pub least : rounded loss (up (balance_of b pool)) last ≤ rest
  pub most : rest ≤ rounded loss (up (balance_of b pool)) last + length others
