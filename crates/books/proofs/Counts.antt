-- The number of used rows, and what a tidy table is.
use mathlib.Core.Path.{◌≡◌, refl, sym, ap, ◌∙◌}
use mathlib.Core.Logic.{◌≢◌, ◌⊎◌, inl, inr}
use mathlib.Core.Bool.{Bool, true, false, cond}
use mathlib.Core.List.{List}
use Prim.Native.Nat.{ℕ, zero, suc, ◌+◌, ◌*◌, ◌≤◌, ◌<◌}
use native.Mathlib.Nat.{add-zero, mul-le-mul_right, div-mul-le_self}
use native.Mathlib.Omega.{arith}
use lib.Dec.{eqb}
use lib.ListN.{length, drop}
use borrow.Author.Tests.{eqb-true, eqb-false, eq-eqb}
use Rattle.rows.specs.Rows.{word, all_zero}
use Rattle.rows.specs.inner.Order.{Blank, Used, Packed}
use Rattle.rows.proofs.Order.{lt-or-le}
use Rattle.rows.proofs.Table.{used-one, used-packed}
use Rattle.rows.proofs.Zeros.{zero-blank, blank-zero}
use Rattle.rules.proofs.Tests.{and_left, and_right}
use Rattle.books.specs.Layout.{number_word}
use Rattle.books.specs.Tables.{room_of, used_from, used_of, tidy}

module _ (w : ℕ) (s : List ℕ) where
  -- no more rows are used than there are
  pub used-most : (i m : ℕ) → used_from w s i m ≤ m
  unfolding used_from
  used-most i zero = omega arith
  used-most i (suc m) = go (used-most (suc i) m) (eqb (word s w i number_word) 0)
    where
      go : used_from w s (suc i) m ≤ m → (t : Bool) → cond t 0 (suc (used_from w s (suc i) m)) ≤ suc m
      go h true = omega arith
      go h false = omega arith

  -- a row that is counted is used
  used-each : (i m j : ℕ) → i ≤ j → j < i + used_from w s i m → word s w j number_word ≢ 0
  unfolding used_from
  used-each i zero j p q = absurd (omega arith)
  used-each i (suc m) j p q = go (used-each (suc i) m j) (eqb (word s w i number_word) 0) refl q
    where
      go : (suc i ≤ j → j < suc i + used_from w s (suc i) m → word s w j number_word ≢ 0) → (t : Bool) → eqb (word s w i number_word) 0 ≡ t → j < i + cond t 0 (suc (used_from w s (suc i) m)) → word s w j number_word ≢ 0
      go ih true e q = absurd (omega arith)
      go ih false e q = here (lt-or-le i j)
        where
          here : (i < j) ⊎ (j ≤ i) → word s w j number_word ≢ 0
          here (inl l) = ih l (omega arith)
          here (inr l) =
              let f : j ≡ i = omega arith in
              λ z. eqb-false (word s w i number_word) 0 e (ap (λ (k : ℕ). word s w k number_word) (sym f) ∙ z)

  -- and the row after them is not
  used-stop : (i m : ℕ) → used_from w s i m < m → word s w (i + used_from w s i m) number_word ≡ 0
  unfolding used_from
  used-stop i zero h = absurd (omega arith)
  used-stop i (suc m) h = go (used-stop (suc i) m) (eqb (word s w i number_word) 0) refl h
    where
      go : (used_from w s (suc i) m < m → word s w (suc i + used_from w s (suc i) m) number_word ≡ 0) → (t : Bool) → eqb (word s w i number_word) 0 ≡ t → cond t 0 (suc (used_from w s (suc i) m)) < suc m → word s w (i + cond t 0 (suc (used_from w s (suc i) m))) 1 ≡ 0
      go ih true e h = ap (λ (k : ℕ). word s w k number_word) (add-zero i) ∙ eqb-true (word s w i number_word) 0 e
      go ih false e h =
          let f : i + suc (used_from w s (suc i) m) ≡ suc i + used_from w s (suc i) m = omega arith in
          ap (λ (k : ℕ). word s w k number_word) f ∙ ih (omega arith)

  pub used-fits : used_of w s * w ≤ length s
  used-fits = omega (arith, mul-le-mul_right w (used-most 0 (room_of w s)), div-mul-le_self (length s) w)

  -- `used_of` counts the leading rows that are used, as `rows` says it
  pub used-of : Used s w (used_of w s)
  used-of = record {
    fits = used-fits;
    used = λ i h. used-each 0 (room_of w s) i (omega arith) (omega arith);
    stop = λ h.
        let f : used_of w s ≡ 0 + used_of w s = omega arith in
        ap (λ (k : ℕ). word s w k number_word) f ∙ used-stop 0 (room_of w s) h;
  }

  pub used-is : (n : ℕ) → 0 < w → Used s w n → n ≡ used_of w s
  used-is n h u = used-one s w n (used_of w s) h u used-of

  -- a tidy table: whole rows, and nothing after the used ones
  pub record Tidy : Type 0 where
    pub even : room_of w s * w ≡ length s
    pub blank : Blank s (used_of w s * w)

  pub tidy-read : tidy w s ≡ true → Tidy
  tidy-read e =
      let a = eqb (room_of w s * w) (length s) in
      let z = all_zero (drop (used_of w s * w) s) in
      record { even = eqb-true (room_of w s * w) (length s) (and_left a z e); blank = zero-blank s (used_of w s * w) (and_right a z e) }

  pub tidy-made : Tidy → tidy w s ≡ true
  tidy-made t = rw (eq-eqb (room_of w s * w) (length s) t.even, blank-zero s (used_of w s * w) t.blank)

  pub tidy-packed : tidy w s ≡ true → Packed s w
  tidy-packed e = used-packed s w (used_of w s) used-of (tidy-read e).blank
