-- The rules' definition of a shared loss, one row more at a time: what the rows from here on become, once those before them have taken
-- all of the loss but `rest`.
use mathlib.Core.Path.{◌≡◌, refl, sym, ap, ◌∙◌}
use mathlib.Core.Bool.{Bool, true, false, not, ◌&&◌, true≢false}
use mathlib.Core.Logic.{⊎_elim}
use mathlib.Core.List.{List, [], ◌∷◌, ◌++◌}
use Prim.Native.Nat.{ℕ, zero, suc, ◌+◌, ◌≤◌, ◌<◌}
use native.Mathlib.Nat.{zero-add, suc-add, add-zero}
use native.Mathlib.Omega.{arith}
use borrow.Author.Tests.{eq-eqb, ne_eqb, eqb-true, not-true}
use lib.Dec.{eqb}
use lib.IntN.{ℤ, pos, nat_abs, ◌-ℤ◌, +ℤ_idr}
use Rattle.whole.specs.Whole.{min_z}
use Rattle.whole.specs.Shares.{share}
use Rattle.rows.proofs.Order.{le-cases}
use Rattle.rules.specs.Table.{keep}
use Rattle.rules.specs.Books.{StakeRow, is_zero, stake_gone}
use Rattle.rules.specs.Sharing.{sharer, sharers, cut_of, reductions, cut_row, lowered}
use Rattle.rules.specs.inner.Facts.{StakeOk}
use Rattle.rules.proofs.Tests.{and_left, and_right}
use Rattle.rules.proofs.Losses.{sharers-in, sharers-out, lowered-in, lowered-out}
use Rattle.books.specs.Tables.{rows_from}
use Rattle.books.specs.Words.{stake_row_at}

abbrev pub rows : List ℕ → ℕ → ℕ → List StakeRow
rows s i n = rows_from stake_row_at s i n

-- the rows l, lowered by `rest`
abbrev pub onward : ℕ → ℕ → ℕ → ℤ → List StakeRow → List StakeRow
onward pool loss balance rest l = lowered pool l (reductions loss balance rest (sharers pool l))

-- ---- who shares

module _ (pool : ℕ) (r : StakeRow) where
  pub other-out : (r.pool ≡ pool → ⊥) → sharer pool r ≡ false
  unfolding sharer
  other-out o = rw (ne_eqb r.pool pool o)

  pub zero-out : is_zero r.stake ≡ true → sharer pool r ≡ false
  unfolding sharer
  zero-out z = go (eqb r.pool pool) (is_zero r.stake) z
    where
      go : (a b : Bool) → b ≡ true → (a && not b) ≡ false
      go true b e = rw e
      go false b e = refl

  pub mine-in : r.pool ≡ pool → is_zero r.stake ≡ false → sharer pool r ≡ true
  unfolding sharer
  mine-in p z = rw (eq-eqb r.pool pool p, z)

  pub shares-read : sharer pool r ≡ true → (r.pool ≡ pool) × (is_zero r.stake ≡ false)
  unfolding sharer
  shares-read e = (eqb-true r.pool pool (and_left _ _ e), not-true _ (and_right (eqb r.pool pool) _ e))

-- ---- one row

lowered_none : (pool : ℕ) (l : List StakeRow) → lowered pool l [] ≡ l
unfolding lowered
lowered_none pool [] = refl
lowered_none pool (r ∷ l) = refl

module _ (pool loss balance : ℕ) (rest : ℤ) where
  pub onward-none : (l : List StakeRow) → sharers pool l ≡ [] → onward pool loss balance rest l ≡ l
  unfolding reductions
  onward-none l e = rw e (lowered_none pool l)

  module _ (r : StakeRow) (l : List StakeRow) where
    pub onward-out : sharer pool r ≡ false → onward pool loss balance rest (r ∷ l) ≡ r ∷ onward pool loss balance rest l
    onward-out e = rw (sharers-out pool r l e) (go (reductions loss balance rest (sharers pool l)))
      where
        go : (cuts : List ℤ) → lowered pool (r ∷ l) cuts ≡ r ∷ lowered pool l cuts
        go [] = lowered_none pool (r ∷ l) ∙ ap {B = List StakeRow} (λ (x : List StakeRow). r ∷ x) (sym (lowered_none pool l))
        go (c ∷ cs) = lowered-out pool r l c cs e

    pub onward-last : (next : ℤ) → sharer pool r ≡ true → sharers pool l ≡ [] → onward pool loss balance rest (r ∷ l) ≡ keep stake_gone (cut_row r rest) (onward pool loss balance next l)
    unfolding reductions
    onward-last next e n = rw (sharers-in pool r l e, n) (lowered-in pool r l rest [] e)

    pub onward-mid : sharer pool r ≡ true → (sharers pool l ≡ [] → ⊥)
        → onward pool loss balance rest (r ∷ l) ≡ keep stake_gone (cut_row r (min_z (share r.stake loss balance) rest)) (onward pool loss balance (rest -ℤ min_z (share r.stake loss balance) rest) l)
    unfolding cut_of reductions
    onward-mid e n = rw (sharers-in pool r l e) (go (sharers pool l) n)
      where
        go : (ss : List ℤ) → (ss ≡ [] → ⊥)
            → lowered pool (r ∷ l) (reductions loss balance rest (r.stake ∷ ss))
            ≡ keep stake_gone (cut_row r (min_z (share r.stake loss balance) rest)) (lowered pool l (reductions loss balance (rest -ℤ min_z (share r.stake loss balance) rest) ss))
        go [] n = absurd (n refl)
        go (t ∷ ss) n = lowered-in pool r l _ _ e

-- a row without a stake, less nothing, is itself
pub uncut : (r : StakeRow) → StakeOk r → is_zero r.stake ≡ true → cut_row r (pos 0) ≡ r
uncut r ok z =
    let n : r.since ≡ 0 = ok.no-since (eqb-true (nat_abs r.stake) 0 z) in
    let d : r.stake -ℤ pos 0 ≡ r.stake = +ℤ_idr r.stake in
    rw (d, z, n)

-- ---- rows in words

module _ (pool : ℕ) (s : List ℕ) where
  -- none of the n rows from row i on shares
  abbrev pub NoSharers : ℕ → ℕ → Type 0
  NoSharers i n = (j : ℕ) → i ≤ j → j < i + n → sharer pool (stake_row_at s j) ≡ false

  pub sharers-none : (i n : ℕ) → NoSharers i n → sharers pool (rows s i n) ≡ []
  unfolding rows_from sharers
  sharers-none i zero h = refl
  sharers-none i (suc n) h = sharers-out pool (stake_row_at s i) (rows s (suc i) n) (h i (omega arith) (omega arith)) ∙ sharers-none (suc i) n (λ j p q. h j (omega arith) (omega arith))

  pub sharers-some : (i n j : ℕ) → i ≤ j → j < i + n → sharer pool (stake_row_at s j) ≡ true → sharers pool (rows s i n) ≡ [] → ⊥
  unfolding rows_from
  sharers-some i zero j p q t e = omega arith
  sharers-some i (suc n) j p q t e = go (sharer pool (stake_row_at s i)) refl (λ l f. sharers-some (suc i) n j l (omega arith) t f)
    where
      go : (b : Bool) → sharer pool (stake_row_at s i) ≡ b → (suc i ≤ j → sharers pool (rows s (suc i) n) ≡ [] → ⊥) → ⊥
      go true b ih = let f = sym (sharers-in pool (stake_row_at s i) (rows s (suc i) n) b) ∙ e in let z : ◌≡◌ {A = ℕ} 0 1 = cc in omega arith
      go false b ih =
          ⊎_elim (λ f. true≢false (sym t ∙ ap (λ (k : ℕ). sharer pool (stake_row_at s k)) (sym f) ∙ b))
          (λ l. ih l (sym (sharers-out pool (stake_row_at s i) (rows s (suc i) n) b) ∙ e))
          (le-cases i j p)

  -- rows that do not share are passed by
  pub onward-past : (loss balance : ℕ) (rest : ℤ) (i n k : ℕ) → NoSharers i n → onward pool loss balance rest (rows s i (n + k)) ≡ rows s i n ++ onward pool loss balance rest (rows s (i + n) k)
  unfolding rows_from
  onward-past loss balance rest i zero k h = rw (zero-add, add-zero)
  onward-past loss balance rest i (suc n) k h =
      let f : suc i + n ≡ i + suc n = omega arith in
      ap (λ (m : ℕ). onward pool loss balance rest (rows s i m)) (suc-add n k)
      ∙ onward-out pool loss balance rest (stake_row_at s i) (rows s (suc i) (n + k)) (h i (omega arith) (omega arith))
      ∙ ap {B = List StakeRow} (λ (l : List StakeRow). stake_row_at s i ∷ l)
      (onward-past loss balance rest (suc i) n k (λ j p q. h j (omega arith) (omega arith)) ∙ ap (λ (m : ℕ). rows s (suc i) n ++ onward pool loss balance rest (rows s m k)) f)
