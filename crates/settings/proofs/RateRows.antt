-- Rows as they are banked: one row, and the walk over all of them from the last row down.
use mathlib.Core.Path.{◌≡◌, refl, sym, ap, ◌∙◌, subst}
use mathlib.Core.Bool.{true, false}
use mathlib.Core.Logic.{⊎_elim}
use mathlib.Core.List.{List, map}
use Prim.Native.Nat.{ℕ, zero, suc, ◌+◌, ◌≤◌, ◌<◌}
use native.Mathlib.Omega.{arith}
use borrow.Author.Tests.{not-true, ne_eqb, le-leb, leb-true, ltb-true, ltb-false}
use lib.Dec.{eqb, leb}
use lib.ListN.{get_or}
use Rattle.std.specs.Prelude.{Ok, Err}
use Rattle.rows.specs.Rows.{word}
use Rattle.rows.proofs.Order.{lt-or-le, le-cases}
use Rattle.rules.specs.Limits.{limit, flat}
use Rattle.rules.specs.Terms.{yield_rate, bank_accrued_yield, banked_answer}
use Rattle.rules.specs.declared.refusal.Refusal.{Refusal}
use Rattle.rules.specs.declared.refusal.Refusal.TheVariants.{OverLimit}
use Rattle.rules.specs.Table.{each}
use Rattle.rules.specs.Books.{StakeRow, is_zero}
use Rattle.rules.specs.Sharing.{sharer}
use Rattle.rules.specs.Settings.{accruals_fit}
use Rattle.rules.proofs.Tests.{and_right, each_first, each_more}
use Rattle.rules.proofs.Conditions.{refuted}
use Rattle.books.specs.Layout.{stake_width, pool_word, accrual_word, rate_word}
use Rattle.books.specs.Tables.{used_of, rows_from}
use Rattle.books.specs.Words.{stake_row_at, books_of}
use Rattle.books.specs.inner.Banking.{Bankable}
use Rattle.books.proofs.Accruals.{banked-to, banked-over}
use Rattle.books.proofs.StakeRows.{held-ok}
use Rattle.settings.specs.inner.Banking.{banked_by, banked_rows, CanBank}

-- ---- one row

module _ (b : List ℕ) (time : ℕ) (r : StakeRow) where
  -- its accrual as banked
  abbrev earned : ℕ
  earned = bank_accrued_yield (yield_rate (get_or b rate_word 0) flat) time r.stake r.since r.accrual

  pub other_row : sharer flat r ≡ false → banked_by b time r ≡ r
  other_row e = rw e

  flat-row : sharer flat r ≡ true → banked_by b time r ≡ record { pool = r.pool; account = r.account; stake = r.stake; since = time; accrual = earned }
  unfolding sharer books_of
  flat-row e = rw (e, not-true (is_zero r.stake) (and_right (eqb r.pool flat) _ e))

  -- what the two answers of its banked accrual say
  pub flat-banked : sharer flat r ≡ true → (n : ℕ) → Ok n ≡ banked_answer earned
      → (record { pool = r.pool; account = r.account; stake = r.stake; since = time; accrual = n } ≡ banked_by b time r) × (n ≤ limit)
  flat-banked e n q =
      let k = banked-to earned n q in
      (ap {B = StakeRow} (λ (x : ℕ). record { pool = r.pool; account = r.account; stake = r.stake; since = time; accrual = x }) k.0 ∙ sym (flat-row e), omega (arith, k.0, ltb-false limit earned k.1))

  pub flat-over : sharer flat r ≡ true → (x : Refusal) → Err x ≡ banked_answer earned → (x ≡ OverLimit) × (limit < (banked_by b time r).accrual)
  flat-over e x q =
      let k = banked-over earned x q in
      (k.0, omega (arith, ltb-true limit earned k.1, ap (λ (y : StakeRow). y.accrual) (flat-row e)))

-- ---- all rows

module _ (b : List ℕ) (time : ℕ) (s : List ℕ) where
  -- row j as it is banked keeps to the limit of an accrual
  abbrev pub Fits : ℕ → Type 0
  Fits j = (banked_by b time (stake_row_at s j)).accrual ≤ limit

  -- where the accruals fit, each does
  pub fits-at : (i n : ℕ) → accruals_fit (map (banked_by b time) (rows_from stake_row_at s i n)) ≡ true → (j : ℕ) → i ≤ j → j < i + n → Fits j
  unfolding accruals_fit rows_from
  fits-at i zero e j p q = absurd (omega arith)
  fits-at i (suc n) e j p q =
      let f = each_first (λ (r : StakeRow). leb r.accrual limit) (banked_by b time (stake_row_at s i)) (map (banked_by b time) (rows_from stake_row_at s (suc i) n)) e in
      ⊎_elim (λ h. subst Fits h (leb-true _ limit f.0)) (λ l. fits-at (suc i) n f.1 j (omega arith) (omega arith)) (le-cases i j p)

  -- and where each does, they all do
  pub fits_all : (i n : ℕ) → ((j : ℕ) → i ≤ j → j < i + n → Fits j) → accruals_fit (map (banked_by b time) (rows_from stake_row_at s i n)) ≡ true
  unfolding accruals_fit rows_from each
  fits_all i zero h = refl
  fits_all i (suc n) h =
      each_more (λ (r : StakeRow). leb r.accrual limit) (banked_by b time (stake_row_at s i)) (map (banked_by b time) (rows_from stake_row_at s (suc i) n)) (le-leb _ limit (h i (omega arith) (omega arith)))
      (fits_all (suc i) n (λ j p q. h j (omega arith) (omega arith)))

  module _ (from n : ℕ) (k : CanBank s b from n time) where
    -- the rows before the flat ones are not banked
    pub others-stay : (j : ℕ) → j < from → banked_by b time (stake_row_at s j) ≡ stake_row_at s j
    unfolding sharer
    others-stay j l = other_row b time (stake_row_at s j) (rw (ne_eqb (word s stake_width j pool_word) flat (λ e. omega (arith, k.below j l, e))))

    others-fit : (j : ℕ) → j < from → Fits j
    others-fit j l = omega (arith, ap (λ (r : StakeRow). r.accrual) (others-stay j l), (held-ok s n k.held j (omega (arith, k.most))).accrued)

    pub all_fit : ((j : ℕ) → from ≤ j → j < n → Fits j) → accruals_fit (banked_rows s b time) ≡ true
    all_fit h = fits_all 0 (used_of stake_width s) (λ j p q. ⊎_elim (others-fit j) (λ l. h j l (omega (arith, k.held.table.used))) (lt-or-le j from))

    pub one-over : (j : ℕ) → j < n → limit < (banked_by b time (stake_row_at s j)).accrual → accruals_fit (banked_rows s b time) ≡ false
    one-over j l over = sym (refuted _ (λ t. omega (arith, over, fits-at 0 (used_of stake_width s) t j (omega arith) (omega (arith, k.held.table.used)))))

    -- what a row's banking asks
    pub row-can : (j : ℕ) → j < n → Bankable b flat time (word s stake_width j accrual_word)
    row-can j l = record {
      rate = k.rate;
      pool-is = omega arith;
      time-is = k.time-is;
      accrued = (held-ok s n k.held j l).accrued;
    }
