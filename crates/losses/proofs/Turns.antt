-- A settled loss, row by row: what the rows from row i on become, of the words s, and what the next turn makes of them.
use mathlib.Core.Path.{◌≡◌, refl, sym, ap, ap₂, ◌∙◌}
use mathlib.Core.Bool.{Bool, true, false, cond, true≢false}
use mathlib.Core.Logic.{⊎_elim}
use mathlib.Core.List.{List, ◌∷◌, ◌++◌}
use Prim.Native.Nat.{ℕ, ◌+◌, ◌-◌, ◌*◌, ◌≤◌, ◌<◌}
use native.Mathlib.Nat.{zero-add}
use native.Mathlib.Omega.{arith}
use borrow.Author.Tests.{eqb-true, eqb-false}
use lib.Dec.{eqb}
use lib.IntN.{ℤ, pos, ◌-ℤ◌, +ℤ_idr}
use Rattle.rows.specs.Rows.{word}
use Rattle.rows.proofs.Order.{lt-or-le, le-cases}
use Rattle.rules.specs.Table.{keep}
use Rattle.rules.specs.Books.{StakeRow, is_zero, stake_gone}
use Rattle.rules.specs.Sharing.{cut_row, shared}
use Rattle.rules.specs.inner.Facts.{StakeOk}
use Rattle.books.specs.Layout.{stake_width, stake_word}
use Rattle.books.specs.Words.{stake_row_at}
use Rattle.books.specs.inner.Held.{Fit}
use Rattle.books.proofs.Lists.{rows_next}
use Rattle.books.proofs.StakeRows.{held-ok}
use Rattle.losses.specs.inner.Settling.{Ready, lowered_by, stake_at_row}
use Rattle.losses.specs.Loss.{after}
use Rattle.losses.specs.declared.Loss.{Loss}
use Rattle.losses.proofs.Cuts.{word-zero, word_some, cut-zero, cut-last, cut-mid}
use Rattle.losses.proofs.Walk.{rows, onward, other-out, zero-out, mine-in, onward-out, onward-last, onward-mid, uncut, NoSharers, sharers-none, sharers-some, onward-past}

-- the rows after the loss, and what the rows from row i on become
abbrev pub after_loss : List ℕ → Loss → List StakeRow
after_loss s l = after s l.pool l.amount l.balance

abbrev pub todo : List ℕ → ℕ → Loss → ℕ → ℤ → List StakeRow
todo s used l i rest = onward l.pool l.amount l.balance rest (rows s i (used - i))

-- what row i loses
abbrev pub cut_at : List ℕ → Loss → ℕ → ℤ → ℤ
cut_at s l i rest = lowered_by l.amount l.balance (eqb i l.last) rest (stake_at_row s i)

module _ {s : List ℕ} {used : ℕ} {l : Loss} (h : Ready s used l) where
  -- ---- who shares

  before-none : NoSharers l.pool s 0 l.from
  before-none j p q = other-out l.pool (stake_row_at s j) (λ e. omega (arith, h.span.below j (omega arith), e))

  pub after_none : NoSharers l.pool s l.to (used - l.to)
  after_none j p q = other-out l.pool (stake_row_at s j) (λ e. omega (arith, h.span.above j p (omega (arith, h.span.most)), e))

  pub last_none : (i : ℕ) → l.last ≤ i → NoSharers l.pool s (i + 1) (used - (i + 1))
  last_none i k j p q =
      ⊎_elim (λ m. zero-out l.pool (stake_row_at s j) (word-zero _ (h.ends.after j (omega arith) m)))
      (λ m. other-out l.pool (stake_row_at s j) (λ e. omega (arith, h.span.above j m (omega arith), e))) (lt-or-le j l.to)

  pub last_some : Fit s → is_zero (stake_at_row s l.last) ≡ false
  last_some fit = word_some (word s stake_width l.last stake_word) (fit (l.last * stake_width + stake_word)) h.ends.some

  pub after_is : after_loss s l ≡ rows s 0 l.from ++ todo s used l l.from (pos l.amount)
  unfolding shared
  after_is =
      let e : l.from + (used - l.from) ≡ used = omega (arith, h.span.order, h.span.most) in
      ap (λ (n : ℕ). onward l.pool l.amount l.balance (pos l.amount) (rows s 0 n)) (h.held.table.used ∙ sym e)
      ∙ onward-past l.pool s l.amount l.balance (pos l.amount) 0 l.from (used - l.from) before-none
      ∙ ap (λ (k : ℕ). rows s 0 l.from ++ onward l.pool l.amount l.balance (pos l.amount) (rows s k (used - l.from))) (zero-add l.from)

  -- ---- a turn

  module _ (fit : Fit s) (i : ℕ) (rest : ℤ) (p : l.from ≤ i) (q : i < l.to) where
    abbrev r : StakeRow
    r = stake_row_at s i

    abbrev more : ℤ → List StakeRow
    more x = onward l.pool l.amount l.balance x (rows s (i + 1) (used - (i + 1)))

    stays : StakeOk r → is_zero r.stake ≡ true → (c : ℤ) → c ≡ pos 0 → keep stake_gone (cut_row r c) (more (rest -ℤ c)) ≡ r ∷ more rest
    stays ok z c e =
        ap (λ (x : ℤ). keep stake_gone (cut_row r x) (more (rest -ℤ x))) e
        ∙ ap₂ (λ (x : StakeRow) (y : ℤ). keep stake_gone x (more y)) (uncut r ok z) (+ℤ_idr rest)
        ∙ ap (λ (g : Bool). cond g (more rest) (r ∷ more rest)) ok.kept

    pub turn : todo s used l i rest ≡ keep stake_gone (cut_row r (cut_at s l i rest)) (todo s used l (i + 1) (rest -ℤ cut_at s l i rest))
    turn = ap (onward l.pool l.amount l.balance rest) (rows_next stake_row_at s i used (omega (arith, h.span.most))) ∙ go (is_zero r.stake) refl (eqb i l.last) refl
      where
        go : (z : Bool) → is_zero r.stake ≡ z → (b : Bool) → eqb i l.last ≡ b
            → onward l.pool l.amount l.balance rest (r ∷ rows s (i + 1) (used - (i + 1))) ≡ keep stake_gone (cut_row r (lowered_by l.amount l.balance b rest r.stake)) (more (rest -ℤ lowered_by l.amount l.balance b rest r.stake))
        go true z b e =
            onward-out l.pool l.amount l.balance rest r (rows s (i + 1) (used - (i + 1))) (zero-out l.pool r z)
            ∙ sym (stays (held-ok s used h.held i (omega (arith, h.span.most))) z _ (cut-zero l.amount l.balance rest r.stake b z))
        go false z true e =
            let f : i ≡ l.last = eqb-true i l.last e in
            rw (cut-last l.amount l.balance rest r.stake z)
            (onward-last l.pool l.amount l.balance rest r (rows s (i + 1) (used - (i + 1))) (rest -ℤ rest) (mine-in l.pool r (h.span.mine i p q) z) (sharers-none l.pool s (i + 1) (used - (i + 1)) (last_none i (omega arith))))
        go false z false e =
            let n : i ≡ l.last → ⊥ = eqb-false i l.last e in
            let m : i < l.last = ⊎_elim (λ x. x) (λ g. absurd (true≢false (sym (word-zero _ (h.ends.after i (⊎_elim (λ x. absurd (n (sym x))) (λ x. x) (le-cases l.last i g)) q)) ∙ z))) (lt-or-le i l.last) in
            let some = sharers-some l.pool s (i + 1) (used - (i + 1)) l.last (omega arith) (omega (arith, h.ends.before, h.span.most)) (mine-in l.pool (stake_row_at s l.last) (h.span.mine l.last h.ends.inside h.ends.before) (last_some fit)) in
            rw (cut-mid l.amount l.balance rest r.stake z)
            (onward-mid l.pool l.amount l.balance rest r (rows s (i + 1) (used - (i + 1))) (mine-in l.pool r (h.span.mine i p q) z) some)
