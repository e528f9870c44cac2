-- Document 01's slips are shut off.
use mathlib.Core.Path.{◌≡◌, refl, ◌∙◌, ap}
use mathlib.Core.Bool.{Bool, true, false, cond, and-false}
use mathlib.Core.List.{List, [], ◌∷◌, ◌++◌}
use Prim.Native.Nat.{ℕ, suc, ◌-◌, ◌*◌, ◌/◌}
use native.Mathlib.Nat.{zero-mul, zero-div}
use native.Mathlib.Omega.{arith}
use borrow.Author.Tests.{eqb-true, ne_eqb}
use lib.Dec.{eqb}
use lib.IntN.{ℤ, pos, negsuc, neg_ℤ, ◌+ℤ◌, ◌-ℤ◌}
use lib.ListN.{get_or}
use Rattle.whole.specs.Whole.{up}
use Rattle.whole.specs.Shares.{share}
use Rattle.whole.proofs.Linear.{whole, sum, neg, lesser-is}
use Rattle.whole.proofs.Shares.{share-is}
use Rattle.rules.specs.Limits.{flat, is_pool, is_number}
use Rattle.rules.specs.Terms.{bank_accrued_yield}
use Rattle.rules.specs.Table.{find, has, put, keep, each, sum_of}
use Rattle.rules.specs.Books.{Books, StakeRow, is_zero, stake_gone, balance_of, unpaid_of}
use Rattle.rules.specs.Sharing.{sharer, sharers, cut_of, reductions, cut_row, lowered, shared}
use Rattle.rules.specs.Calls.{ClaimCall}
use Rattle.rules.specs.Answers.{not_by}
use Rattle.rules.specs.Stakes.{no_stake_room, stake, overdrawn, unstake}
use Rattle.rules.specs.Payouts.{cover_of, available}
use Rattle.rules.specs.Step.{malformed, step}
use Rattle.rules.specs.Samples.{books_after}
use Rattle.rules.specs.Slips.{accrual_sum, Slips}
use Rattle.rules.proofs.Tests.{cases, and_right}

-- ---- "Taking a wiped row, kept only for its accrual, as the last sharer"

module _ (pool : ℕ) (r : StakeRow) (wiped : r.stake ≡ pos 0) where
  no-sharer : sharer pool r ≡ false
  unfolding sharer
  no-sharer = rw wiped (and-false (eqb r.pool pool))

  no-stake : (rows : List StakeRow) → sharers pool (rows ++ (r ∷ [])) ≡ sharers pool rows
  unfolding sharers
  no-stake [] = rw no-sharer
  no-stake (x ∷ rows) = ap (λ (l : List ℤ). cond (sharer pool x) (x.stake ∷ l) l) (no-stake rows)

  keep-last : (x : StakeRow) (rows : List StakeRow) → keep stake_gone x (rows ++ (r ∷ [])) ≡ keep stake_gone x rows ++ (r ∷ [])
  keep-last x rows = cases (stake_gone x) rows (x ∷ rows) (λ (l : List StakeRow). keep stake_gone x (rows ++ (r ∷ [])) ≡ l ++ (r ∷ [])) (λ e. rw e) (λ e. rw e)

  not-lowered : (rows : List StakeRow) (cuts : List ℤ) → lowered pool (rows ++ (r ∷ [])) cuts ≡ lowered pool rows cuts ++ (r ∷ [])
  unfolding lowered
  not-lowered [] [] = refl
  not-lowered [] (c ∷ cuts) = rw no-sharer
  not-lowered (x ∷ rows) [] = refl
  not-lowered (x ∷ rows) (c ∷ cuts) = go (sharer pool x) (not-lowered rows cuts) (not-lowered rows (c ∷ cuts))
    where
      go : (t : Bool) → lowered pool (rows ++ (r ∷ [])) cuts ≡ lowered pool rows cuts ++ (r ∷ []) → lowered pool (rows ++ (r ∷ [])) (c ∷ cuts) ≡ lowered pool rows (c ∷ cuts) ++ (r ∷ [])
          → cond t (keep stake_gone (cut_row x c) (lowered pool (rows ++ (r ∷ [])) cuts)) (x ∷ lowered pool (rows ++ (r ∷ [])) (c ∷ cuts)) ≡ cond t (keep stake_gone (cut_row x c) (lowered pool rows cuts)) (x ∷ lowered pool rows (c ∷ cuts)) ++ (r ∷ [])
      go true i j = rw i (keep-last (cut_row x c) (lowered pool rows cuts))
      go false i j = ap (λ (l : List StakeRow). x ∷ l) j

  wiped-last : (loss balance : ℕ) (rows : List StakeRow) → shared pool loss balance (rows ++ (r ∷ [])) ≡ shared pool loss balance rows ++ (r ∷ [])
  unfolding shared
  wiped-last loss balance rows = rw (no-stake rows) (not-lowered rows _)

-- ---- "Rounding a negative share down"

negative-share : (n loss balance rest : ℕ) (s : ℤ) (more : List ℤ) → get_or (reductions loss balance (pos rest) (negsuc n ∷ s ∷ more)) 0 (pos 0) ≡ neg_ℤ (pos (suc n * loss / balance))
unfolding cut_of reductions
negative-share n loss balance rest s more =
    let q = suc n * loss / balance in
    let i = share-is (negsuc n) loss balance in
    let z : up (share (negsuc n) loss balance) ≡ 0 = i.0 ∙ ap (λ (v : ℕ). v / balance) (zero-mul loss) ∙ zero-div balance in
    omega (arith, whole, z, i.1, neg (pos q), lesser-is (share (negsuc n) loss balance) (pos rest))

-- ---- "Using the flat claim rule for tiers"

tier-claim : (b : Books) (c : ClaimCall) → (c.pool ≡ flat → ⊥) → available b c ≡ balance_of b c.pool
tier-claim b c n = ap (λ (t : Bool). cond t (balance_of b c.pool -ℤ pos (unpaid_of b c.pool - cover_of b c)) (balance_of b c.pool)) (ne_eqb c.pool flat n)

-- ---- "Freeing an accrual when a loss wipes the stake"

pub lowered-accruals : (pool : ℕ) (rows : List StakeRow) (cuts : List ℤ) → accrual_sum (lowered pool rows cuts) ≡ accrual_sum rows
unfolding lowered sum_of
lowered-accruals pool [] cuts = refl
lowered-accruals pool (r ∷ rows) [] = refl
lowered-accruals pool (r ∷ rows) (c ∷ cs) =
    let i = lowered-accruals pool rows cs in
    let j = lowered-accruals pool rows (c ∷ cs) in
    cases (sharer pool r) (keep stake_gone (cut_row r c) (lowered pool rows cs)) (r ∷ lowered pool rows (c ∷ cs)) (λ (z : List StakeRow). accrual_sum z ≡ pos r.accrual +ℤ accrual_sum rows)
    (λ e. cases (stake_gone (cut_row r c)) (lowered pool rows cs) (cut_row r c ∷ lowered pool rows cs) (λ (z : List StakeRow). accrual_sum z ≡ pos r.accrual +ℤ accrual_sum rows)
    (λ g. let z = eqb-true r.accrual 0 (and_right (is_zero (r.stake -ℤ c)) _ g) in omega (arith, whole, i, sum (pos r.accrual) (accrual_sum rows)))
    (λ g. ap (λ (z : ℤ). pos r.accrual +ℤ z) i))
    (λ e. ap (λ (z : ℤ). pos r.accrual +ℤ z) j)

pub shared-accruals : (pool loss balance : ℕ) (rows : List StakeRow) → accrual_sum (shared pool loss balance rows) ≡ accrual_sum rows
unfolding shared
shared-accruals pool loss balance rows = lowered-accruals pool rows _

pub slips : Slips
unfolding is_pool is_number bank_accrued_yield find has put each not_by no_stake_room stake overdrawn unstake malformed step books_after
slips = record { wiped-row = wiped-last; toward_zero = negative-share; tier-rule = tier-claim; accruals = shared-accruals; one_left = refl; whole-cap = refl }
