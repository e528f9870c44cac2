-- Words compared as the numbers that they hold.
use mathlib.Core.Path.{◌≡◌, sym, ap, ◌∙◌}
use mathlib.Core.Logic.{⊎_elim}
use mathlib.Core.Bool.{true}
use Prim.Native.Nat.{ℕ, ◌^◌, ◌<◌}
use native.Mathlib.Omega.{arith}
use lib.Dec.{eqb}
use lib.IntN.{ℤ, nat_abs, ◌-ℤ◌}
use mir.Syntax.{w64}
use mir.Val.{to_z, of_z}
use borrow.Author.Tests.{eq-eqb, eqb-true}
use Rattle.whole.proofs.Linear.{whole, dif, abs}
use Rattle.whole.proofs.Words.{word_back, halves}
use Rattle.rules.specs.Books.{is_zero}
use Rattle.rules.proofs.Conditions.{bool_same}

-- a word is 0 where its number is
pub zero_same : (a : ℕ) → a < 2 ^ 64 → eqb a 0 ≡ is_zero (to_z w64 a)
zero_same a h = bool_same (eqb a 0) (is_zero (to_z w64 a)) there back
  where
    size : a ≡ 0 → nat_abs (to_z w64 a) ≡ 0
    size e = ⊎_elim (λ l. omega (arith, abs (to_z w64 a), l)) (λ l. absurd (omega (arith, l.half))) (halves a h)

    there : eqb a 0 ≡ true → is_zero (to_z w64 a) ≡ true
    there e = eq-eqb (nat_abs (to_z w64 a)) 0 (size (eqb-true a 0 e))

    back : is_zero (to_z w64 a) ≡ true → eqb a 0 ≡ true
    back e =
        let z = eqb-true (nat_abs (to_z w64 a)) 0 e in
        eq-eqb a 0 (⊎_elim (λ l. omega (arith, abs (to_z w64 a), l)) (λ l. absurd (omega (arith, abs (to_z w64 a), l.below))) (halves a h))

-- numbers that are one have no difference
pub no-dif : (x y : ℤ) → x ≡ y → is_zero (x -ℤ y) ≡ true
no-dif x y e = eq-eqb (nat_abs (x -ℤ y)) 0 (omega (arith, whole, abs (x -ℤ y), dif x y))

-- words that hold one number are one
pub same_word : (a b : ℕ) → a < 2 ^ 64 → b < 2 ^ 64 → to_z w64 a ≡ to_z w64 b → a ≡ b
same_word a b ha hb e = sym (word_back a ha) ∙ ap (of_z w64) e ∙ word_back b hb
