-- A pool with a balance has a sharer, since the sum of its stakes is above 0.
use mathlib.Core.Path.{◌≡◌, refl, sym, ap, ◌∙◌}
use mathlib.Core.Bool.{Bool, true, false, true≢false}
use mathlib.Core.Logic.{◌⊎◌, inl, inr, ⊎_elim}
use mathlib.Core.List.{List, []}
use Prim.Native.Nat.{ℕ, zero, suc, ◌+◌, ◌≤◌, ◌<◌}
use native.Mathlib.Omega.{arith}
use lib.IntN.{pos}
use Rattle.whole.specs.Whole.{up}
use Rattle.whole.specs.Sums.{sum_z}
use Rattle.rows.specs.Rows.{word}
use Rattle.rows.proofs.Order.{lt-or-le}
use Rattle.rules.specs.Sharing.{sharer, sharers}
use Rattle.rules.proofs.Losses.{sharers-sum, sharers-out}
use Rattle.books.specs.Layout.{stake_width, stake_word}
use Rattle.books.specs.Tables.{rows_from, used_of, table_of}
use Rattle.books.specs.Words.{stake_row_at}
use Rattle.books.specs.inner.Held.{HeldStakes}
use Rattle.books.specs.inner.Pool.{PoolAt}
use Rattle.losses.specs.inner.Settling.{SomeSharer}
use Rattle.losses.specs.Loss.{Shareable}
use Rattle.losses.proofs.Cuts.{word-zero}
use Rattle.losses.proofs.Walk.{rows, shares-read}

-- one of the n rows from row i on
record Found (pool : ℕ) (s : List ℕ) (i n : ℕ) : Type 0 where
  row : ℕ
  inside : i ≤ row
  before : row < i + n
  shares : sharer pool (stake_row_at s row) ≡ true

found : (pool : ℕ) (s : List ℕ) (i n : ℕ) → Found pool s i n ⊎ (sharers pool (rows s i n) ≡ [])
unfolding rows_from sharers
found pool s i zero = inr refl
found pool s i (suc n) = go (sharer pool (stake_row_at s i)) refl (found pool s (suc i) n)
  where
    go : (b : Bool) → sharer pool (stake_row_at s i) ≡ b → Found pool s (suc i) n ⊎ (sharers pool (rows s (suc i) n) ≡ []) → Found pool s i (suc n) ⊎ (sharers pool (rows s i (suc n)) ≡ [])
    go true e ih = inl (record { row = i; inside = omega arith; before = omega arith; shares = e })
    go false e (inl f) = inl (record { row = f.row; inside = omega (arith, f.inside); before = omega (arith, f.before); shares = f.shares })
    go false e (inr f) = inr (sharers-out pool (stake_row_at s i) (rows s (suc i) n) e ∙ f)

pub some-sharer : {s : List ℕ} {used pool from to loss balance : ℕ} → HeldStakes s used → PoolAt s used pool from to → Shareable pool loss balance (table_of stake_row_at stake_width s) → SomeSharer s from to
unfolding sum_z
some-sharer {s} {used} {pool} {from} {to} {loss} {balance} held span sh = ⊎_elim here (λ none. absurd (nobody none)) (found pool s 0 (used_of stake_width s))
  where
    nobody : sharers pool (table_of stake_row_at stake_width s) ≡ [] → ⊥
    nobody none =
        let e : pos balance ≡ pos 0 = sh.sum ∙ sharers-sum pool (table_of stake_row_at stake_width s) ∙ ap sum_z none in
        omega (arith, ap up e, sh.some, sh.most)

    here : Found pool s 0 (used_of stake_width s) → SomeSharer s from to
    here f =
        let r = shares-read pool (stake_row_at s f.row) f.shares in
        record {
          row = f.row;
          inside = ⊎_elim (λ l. absurd (omega (arith, span.below f.row l, r.0))) (λ l. l) (lt-or-le f.row from);
          before = ⊎_elim (λ l. l) (λ l. absurd (omega (arith, span.above f.row l (omega (arith, f.before, held.table.used)), r.0))) (lt-or-le f.row to);
          some = λ e. true≢false (sym (word-zero (word s stake_width f.row stake_word) e) ∙ r.1);
        }
