-- Document 01's "Slips to shut off", each as the fact that shuts it off, in one statement.
use Rattle.std.specs.Prelude.{◌≡◌, List, [], ◌∷◌, ◌++◌, ℕ, suc, ◌*◌, ◌/◌, ℤ, pos, negsuc, neg_ℤ, get_or}
use Rattle.rules.specs.Limits.{limit, balanced, aggressive, flat}
use Rattle.rules.specs.Terms.{capped}
use Rattle.rules.specs.Table.{sum_of}
use Rattle.rules.specs.Calls.{ClaimCall, account_no}
use Rattle.rules.specs.Books.{Books, StakeRow, stake_at, stake_row, balance_of}
use Rattle.rules.specs.Sharing.{reductions, shared}
use Rattle.rules.specs.Payouts.{available}
use Rattle.rules.specs.Samples.{at, to_stake, to_unstake, roomy, books_after}

abbrev pub accrual_sum : List StakeRow → ℤ
accrual_sum rows = sum_of (λ r. pos r.accrual) rows

pub record Slips : Type 0 where
  -- "Taking a wiped row, kept only for its accrual, as the last sharer"
  pub wiped-row : (pool : ℕ) (r : StakeRow) → r.stake ≡ pos 0 → (loss balance : ℕ) (rows : List StakeRow) → shared pool loss balance (rows ++ (r ∷ [])) ≡ shared pool loss balance rows ++ (r ∷ [])
  -- "Rounding a negative share down"
  pub toward_zero : (n loss balance rest : ℕ) (s : ℤ) (more : List ℤ) → get_or (reductions loss balance (pos rest) (negsuc n ∷ s ∷ more)) 0 (pos 0) ≡ neg_ℤ (pos (suc n * loss / balance))
  -- "Using the flat claim rule for tiers"
  pub tier-rule : (b : Books) (c : ClaimCall) → (c.pool ≡ flat → ⊥) → available b c ≡ balance_of b c.pool
  -- "Freeing an accrual when a loss wipes the stake"
  pub accruals : (pool loss balance : ℕ) (rows : List StakeRow) → accrual_sum (shared pool loss balance rows) ≡ accrual_sum rows
  -- "Refusing a withdrawal that leaves less than 1,000,000"
  pub one_left : stake_at (books_after roomy (at 0 7 (to_stake balanced 7 (pos 2_000_000)) ∷ at 5 7 (to_unstake balanced 7 (pos 1_999_999)) ∷ [])) balanced (account_no 7) ≡ stake_row balanced 7 (pos 1) 5 0
  -- "Holding 10^15 times 10,000 in a signed 64-bit number"
  pub whole-cap : capped aggressive limit ≡ limit
