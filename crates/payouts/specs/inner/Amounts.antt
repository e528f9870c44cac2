-- What may be paid, granted or claimed, of the words of the books: the rules' `payable`, `grantable` and `claimable`.
use Rattle.std.specs.Prelude.{cond, List, ℕ, ◌-◌, ◌*◌, ◌≤◌, ◌<◌, eqb, ℤ, pos, ◌-ℤ◌}
use Rattle.whole.specs.Whole.{min_z, Within}
use Rattle.rules.specs.Limits.{limit, most_stakes, most_offers, flat}
use Rattle.rules.specs.Terms.{capped}
use Rattle.books.specs.Layout.{pools}
use Rattle.books.specs.Words.{balance_in, unpaid_in}

-- a pool's figures, within what rows can sum to, and a call's amount
pub record Payable (b : List ℕ) (pool amount : ℕ) : Type 0 where
  pub pool-is : pool < pools
  pub balance : Within (most_stakes * limit) (balance_in b pool)
  pub unpaid : unpaid_in b pool ≤ most_offers * limit
  pub amount-most : amount ≤ limit

abbrev pub payable_of : List ℕ → ℕ → ℕ → ℤ
payable_of b pool amount = min_z (pos (capped pool amount)) (balance_in b pool)

-- ---- reserve

pub record Grantable (b : List ℕ) (pool amount granted : ℕ) : Type 0 where
  pub figures : Payable b pool amount
  pub granted-most : granted ≤ limit

abbrev pub wanted_of : ℕ → ℕ → ℕ → ℤ
wanted_of pool amount granted = cond (eqb pool flat) (pos amount) (pos (capped pool amount) -ℤ pos granted)

abbrev pub grantable_of : List ℕ → ℕ → ℕ → ℕ → ℤ
grantable_of b pool amount granted = min_z (wanted_of pool amount granted) (balance_in b pool -ℤ pos (unpaid_in b pool))

-- ---- claim

pub record Claimable (b : List ℕ) (pool amount cover : ℕ) : Type 0 where
  pub figures : Payable b pool amount
  pub part : cover ≤ unpaid_in b pool
  pub small : cover ≤ limit

abbrev pub claimable_of : List ℕ → ℕ → ℕ → ℕ → ℤ
claimable_of b pool amount cover =
    min_z (min_z (pos amount) (pos cover)) (cond (eqb pool flat) (balance_in b pool -ℤ pos (unpaid_in b pool - cover)) (balance_in b pool))
