-- Whether a stake passes its limit in a loss: only the last sharer's can, and only downwards.
use mathlib.Core.Path.{◌≡◌, refl, sym, ap, ◌∙◌}
use mathlib.Core.Bool.{Bool, true, false, not, cond, ◌&&◌}
use mathlib.Core.List.{List, [], ◌∷◌, ◌++◌, append-nil}
use Prim.Native.Nat.{ℕ, zero, suc, ◌+◌, ◌-◌, ◌≤◌, ◌<◌}
use native.Mathlib.Omega.{arith}
use borrow.Author.Tests.{eq-eqb, ne_eqb, eqb-true, le-leb, lt-leb}
use lib.Dec.{eqb, leb}
use lib.IntN.{ℤ, pos, nat_abs, ◌-ℤ◌}
use lib.ListN.{length}
use lib.Signed.{lt_z}
use Rattle.std.specs.Prelude.{Ok, Err}
use Rattle.whole.specs.Whole.{up, dn}
use Rattle.whole.proofs.Linear.{abs, one, dif, within-abs, lt-true, lt-false}
use Rattle.rules.specs.Limits.{limit}
use Rattle.rules.specs.Table.{keep, each}
use Rattle.rules.specs.Books.{StakeRow, is_zero, stake_gone}
use Rattle.rules.specs.Sharing.{cut_row, stakes_fit}
use Rattle.rules.specs.declared.refusal.Refusal.TheVariants.{OverLimit}
use Rattle.books.specs.Layout.{stake_width}
use Rattle.books.specs.Tables.{rows_from, room_of, table_words}
use Rattle.books.specs.Words.{stake_row_at, stake_words}
use Rattle.books.specs.inner.Held.{Fit}
use Rattle.books.proofs.StakeRows.{held-ok}
use Rattle.losses.specs.Loss.{answer, left}
use Rattle.losses.specs.inner.Settling.{Ready, lowered_by, least, left_last, rest_after, stake_at_row}
use Rattle.losses.specs.declared.Loss.{Loss}
use Rattle.losses.proofs.Cuts.{cut-last, cut-taken, cut-shrinks}
use Rattle.losses.proofs.Walk.{rows, onward-none, sharers-none}
use Rattle.losses.proofs.Rest.{rest-bound}
use Rattle.losses.proofs.Turns.{after_loss, todo, turn, last_none, last_some, after_is}

abbrev fit_one : ℤ → Bool
fit_one z = leb (nat_abs z) limit

-- ---- one row

-- a row that is gone passes the test as well
keep-fit : (r : StakeRow) (l : List StakeRow) → stakes_fit (keep stake_gone r l) ≡ cond (fit_one r.stake) (stakes_fit l) false
unfolding stakes_fit each
keep-fit r l = go (is_zero r.stake) (eqb r.accrual 0) refl
  where
    go : (u v : Bool) → is_zero r.stake ≡ u → stakes_fit (cond (u && v) l (r ∷ l)) ≡ cond (fit_one r.stake) (stakes_fit l) false
    go true true e = let z = eqb-true (nat_abs r.stake) 0 e in rw (le-leb (nat_abs r.stake) limit (omega (arith, z)))
    go true false e = refl
    go false v e = refl

-- rows in order fit
rows_fit : (s : List ℕ) (i n : ℕ) (l : List StakeRow) → ((j : ℕ) → i ≤ j → j < i + n → nat_abs (stake_at_row s j) ≤ limit) → stakes_fit (rows s i n ++ l) ≡ stakes_fit l
unfolding stakes_fit each rows_from
rows_fit s i zero l h = refl
rows_fit s i (suc n) l h = rw (le-leb (nat_abs (stake_at_row s i)) limit (h i (omega arith) (omega arith))) (rows_fit s (suc i) n l (λ j p q. h j (omega arith) (omega arith)))

all_fit : (s : List ℕ) (i n : ℕ) → ((j : ℕ) → i ≤ j → j < i + n → nat_abs (stake_at_row s j) ≤ limit) → stakes_fit (rows s i n) ≡ true
unfolding stakes_fit each
all_fit s i n h = ap stakes_fit (sym (append-nil (rows s i n))) ∙ rows_fit s i n [] h

-- a number that is not above its limit is within it where it is not below
fit-below : (x : ℤ) → up x ≤ limit → fit_one x ≡ not (lt_z x least)
fit-below x h = go (lt_z x least) refl
  where
    go : (u : Bool) → lt_z x least ≡ u → fit_one x ≡ not u
    go true e = lt-leb (nat_abs x) limit (omega (arith, lt-true x least e, abs x, one x))
    go false e = le-leb (nat_abs x) limit (omega (arith, lt-false x least e, abs x, one x))

itself : (v : Bool) → cond v true false ≡ v
itself true = refl
itself false = refl

-- ---- the pool's rows

module _ {s : List ℕ} {used : ℕ} {l : Loss} (h : Ready s used l) (fit : Fit s) where
  size : (j : ℕ) → j < used → nat_abs (stake_at_row s j) ≤ limit
  size j q = (held-ok s used h.held j q).size

  -- what row i loses, the last or not, and what is then left to do
  abbrev cut : Bool → ℕ → ℤ → ℤ
  cut b i rest = lowered_by l.amount l.balance b rest (stake_at_row s i)

  abbrev more : Bool → ℕ → ℤ → List StakeRow
  more b i rest = keep stake_gone (cut_row (stake_row_at s i) (cut b i rest)) (todo s used l (i + 1) (rest -ℤ cut b i rest))

  -- one that is not the last keeps within its limit
  fit_mid : (i : ℕ) (rest : ℤ) → l.from ≤ i → i < l.last → dn rest ≡ 0 → stakes_fit (todo s used l i rest) ≡ stakes_fit (todo s used l (i + 1) (rest -ℤ cut false i rest))
  fit_mid i rest p q n =
      ap stakes_fit (turn h fit i rest p (omega (arith, h.ends.before)))
      ∙ ap (λ (b : Bool). stakes_fit (more b i rest)) (ne_eqb i l.last (λ z. omega arith))
      ∙ keep-fit (cut_row (stake_row_at s i) (cut false i rest)) (todo s used l (i + 1) (rest -ℤ cut false i rest))
      ∙ ap (λ (b : Bool). cond b (stakes_fit (todo s used l (i + 1) (rest -ℤ cut false i rest))) false)
      (le-leb (nat_abs (stake_at_row s i -ℤ cut false i rest)) limit (omega (arith, cut-shrinks l.amount l.balance h.loss-is.most rest (stake_at_row s i) n, size i (omega (arith, h.ends.before, h.span.most)))))

  fit-walk : (n i : ℕ) (rest : ℤ) → i + n ≡ l.last → l.from ≤ i → dn rest ≡ 0 → stakes_fit (todo s used l i rest) ≡ stakes_fit (todo s used l l.last (rest_after s l.amount l.balance rest i n))
  unfolding rest_after
  fit-walk zero i rest e p d = let f : i ≡ l.last = omega arith in ap (λ (k : ℕ). stakes_fit (todo s used l k rest)) f
  fit-walk (suc n) i rest e p d =
      let f : i + 1 ≡ suc i = omega arith in
      fit_mid i rest p (omega arith) d
      ∙ ap (λ (k : ℕ). stakes_fit (todo s used l k (rest -ℤ cut false i rest))) f
      ∙ fit-walk n (suc i) (rest -ℤ cut false i rest) (omega arith) (omega arith) (cut-taken l.amount l.balance h.loss-is.most rest (stake_at_row s i) d false).nonneg

  -- the last is left with its stake less the rest
  fit-last : (rest : ℤ) → dn rest ≡ 0 → stakes_fit (todo s used l l.last rest) ≡ not (lt_z (stake_at_row s l.last -ℤ rest) least)
  fit-last rest n =
      let i : ℕ = l.last in
      let z = stake_at_row s i in
      let k : ℕ = used - (i + 1) in
      let none = sharers-none l.pool s (i + 1) k (last_none h i (omega arith)) in
      let w = size i (omega (arith, h.ends.before, h.span.most)) in
      ap stakes_fit (turn h fit i rest h.ends.inside h.ends.before)
      ∙ ap (λ (b : Bool). stakes_fit (more b i rest)) (eq-eqb i i refl)
      ∙ ap (λ (d : ℤ). stakes_fit (keep stake_gone (cut_row (stake_row_at s i) d) (todo s used l (i + 1) (rest -ℤ d)))) (cut-last l.amount l.balance rest z (last_some h fit))
      ∙ keep-fit (cut_row (stake_row_at s i) rest) (todo s used l (i + 1) (rest -ℤ rest))
      ∙ ap (λ (b : Bool). cond (fit_one (z -ℤ rest)) b false) (ap stakes_fit (onward-none l.pool l.amount l.balance (rest -ℤ rest) (rows s (i + 1) k) none) ∙ all_fit s (i + 1) k (λ j p q. size j (omega arith)))
      ∙ itself (fit_one (z -ℤ rest))
      ∙ fit-below (z -ℤ rest) (omega (arith, w, n, abs z, one z, dif z rest, one (z -ℤ rest)))

  -- what `over_limit` tests is what the rules ask
  pub fits-is : stakes_fit (after_loss s l) ≡ not (lt_z (left_last s l) least)
  fits-is =
      let n : ℕ = l.last - l.from in
      ap stakes_fit (after_is h)
      ∙ rows_fit s 0 l.from (todo s used l l.from (pos l.amount)) (λ j p q. size j (omega (arith, h.span.order, h.span.most)))
      ∙ fit-walk n l.from (pos l.amount) (omega (arith, h.ends.inside)) (omega arith) refl
      ∙ fit-last (rest_after s l.amount l.balance (pos l.amount) l.from n) (rest-bound s l.amount l.balance h.loss-is.most (pos l.amount) l.from n refl (λ k p q. within-abs (size k (omega (arith, p, q, h.ends.inside, h.ends.before, h.span.most))))).1

  -- what is told of a loss that is refused, and of one that is shared
  module _ {over : Bool} (told : over ≡ lt_z (left_last s l) least) where
    pub refused : over ≡ true → (answer (after_loss s l) ≡ Err OverLimit) × (left s (after_loss s l) ≡ s)
    refused e = let f : stakes_fit (after_loss s l) ≡ false = fits-is ∙ ap not (sym told ∙ e) in (rw f, rw f)

    pub shared : over ≡ false → (answer (after_loss s l) ≡ Ok (length (after_loss s l))) × (left s (after_loss s l) ≡ table_words stake_words stake_width (room_of stake_width s) (after_loss s l))
    shared e = let f : stakes_fit (after_loss s l) ≡ true = fits-is ∙ ap not (sym told ∙ e) in (rw f, rw f)
