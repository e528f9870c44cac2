-- A signed number that is 0, by its bits.
use mathlib.Core.Path.{◌≡◌, refl, sym, ap, ◌∙◌}
use mathlib.Core.Bool.{true}
use Prim.Native.Nat.{suc}
use native.Mathlib.Omega.{arith}
use borrow.Author.Tests.{eqb-true}
use lib.Dec.{eqb}
use lib.IntN.{ℤ, pos, negsuc}
use mir.Syntax.{w64}
use mir.Val.{SFits, to_z, of_z}
use Rattle.whole.proofs.Words.{number-back}
use Rattle.rules.specs.Books.{is_zero}
use Rattle.rules.proofs.Conditions.{bool_same}

zero_bits : (z : ℤ) → is_zero z ≡ true → eqb (of_z w64 z) 0 ≡ true
zero_bits (pos n) p = let e = eqb-true n 0 p in rw e refl
zero_bits (negsuc n) p = let e = eqb-true (suc n) 0 p in absurd (omega arith)

pub bits-zero : (z : ℤ) → SFits w64 z → eqb (of_z w64 z) 0 ≡ is_zero z
bits-zero z f =
    bool_same (eqb (of_z w64 z) 0) (is_zero z)
    (λ p. let e : z ≡ pos 0 = sym (number-back z f) ∙ ap (to_z w64) (eqb-true (of_z w64 z) 0 p) in rw e refl)
    (zero_bits z)
