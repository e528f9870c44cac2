-- Words that are all 0: the test by the bits of them together, and that it tests what `Blank` says.
use mathlib.Core.Path.{◌≡◌, refl, sym, ap, ap₂, ◌∙◌}
use mathlib.Core.Bool.{Bool, true, false, ◌&&◌, and_assoc, and-true}
use mathlib.Core.List.{List, [], ◌∷◌, ◌++◌}
use Prim.Native.Nat.{ℕ, zero, suc, ◌+◌, ◌-◌}
use native.Mathlib.Omega.{arith}
use lib.Dec.{eqb}
use lib.ListN.{get_or, take, drop}
use lib.Seq.{get_or-drop}
use borrow.Author.Tests.{eq-eqb, ne_eqb, eqb-true}
use Rattle.std.proofs.Common.{fold, bit_or}
use Rattle.std.proofs.lemmas.List.{take-append-drop}
use Rattle.std.proofs.lemmas.Nat.{le_or_l}
use Rattle.std.specs.Int.Bits.{or_zero_l}
use Rattle.rows.specs.inner.Order.{Blank}
use Rattle.rows.specs.Rows.{all_zero}
use Rattle.rows.proofs.Order.{false-true}

left : (a b : Bool) → (a && b) ≡ true → a ≡ true
left true b e = refl
left false b e = e

right : (a b : Bool) → (a && b) ≡ true → b ≡ true
right true b e = e
right false b e = absurd (false-true e)

-- words have no bit between them where each is 0: what `blank` tests
or-zero : (a x : ℕ) → eqb (bit_or a x) 0 ≡ (eqb a 0 && eqb x 0)
or-zero zero x = ap (λ (y : ℕ). eqb y 0) (or_zero_l x)
or-zero (suc a) x = ne_eqb (bit_or (suc a) x) 0 (λ e. omega (arith, le_or_l (suc a) x)) ∙ ap (λ (t : Bool). t && eqb x 0) (sym (ne_eqb (suc a) 0 (λ e. omega arith)))

bits-from : (a : ℕ) (s : List ℕ) → eqb (fold bit_or a s) 0 ≡ (eqb a 0 && all_zero s)
bits-from a [] = sym (and-true (eqb a 0))
bits-from a (x ∷ s) = bits-from (bit_or a x) s ∙ ap (λ (t : Bool). t && all_zero s) (or-zero a x) ∙ and_assoc (eqb a 0) (eqb x 0) (all_zero s)

pub no-bits : (s : List ℕ) → eqb (fold bit_or 0 s) 0 ≡ all_zero s
no-bits s = bits-from 0 s

-- the first n words and those behind them
zero-parts : (s t : List ℕ) → all_zero (s ++ t) ≡ (all_zero s && all_zero t)
zero-parts [] t = refl
zero-parts (x ∷ s) t = ap (λ (b : Bool). eqb x 0 && b) (zero-parts s t) ∙ sym (and_assoc (eqb x 0) (all_zero s) (all_zero t))

pub zero-split : (s : List ℕ) (n : ℕ) (part behind : List ℕ) → part ≡ take n s → behind ≡ drop n s → all_zero s ≡ (all_zero part && all_zero behind)
zero-split s n part behind p b = ap all_zero (sym (take-append-drop n s)) ∙ zero-parts (take n s) (drop n s) ∙ ap₂ (λ (x y : List ℕ). all_zero x && all_zero y) (sym p) (sym b)

-- the test is true of words that are all 0, and of no others
pub zero-blank : (s : List ℕ) (from : ℕ) → all_zero (drop from s) ≡ true → Blank s from
zero-blank s from e j h = let i : from + (j - from) ≡ j = omega arith in sym (ap (λ (k : ℕ). get_or s k 0) i) ∙ sym (get_or-drop from s (j - from) 0) ∙ each (drop from s) (j - from) e
  where
    each : (t : List ℕ) (k : ℕ) → all_zero t ≡ true → get_or t k 0 ≡ 0
    each [] k e = refl
    each (x ∷ t) zero e = eqb-true x 0 (left (eqb x 0) (all_zero t) e)
    each (x ∷ t) (suc k) e = each t k (right (eqb x 0) (all_zero t) e)

pub blank-zero : (s : List ℕ) (from : ℕ) → Blank s from → all_zero (drop from s) ≡ true
blank-zero s from b = all (drop from s) (λ k. get_or-drop from s k 0 ∙ b (from + k) (omega arith))
  where
    all : (t : List ℕ) → ((k : ℕ) → get_or t k 0 ≡ 0) → all_zero t ≡ true
    all [] f = refl
    all (x ∷ t) f = ap₂ (λ (a b : Bool). a && b) (eq-eqb x 0 (f 0)) (all t (λ k. f (suc k)))
