-- Words that hold amounts and stakes, and the numbers that they hold.
use mathlib.Core.Path.{◌≡◌, refl, sym, ap, ◌∙◌}
use mathlib.Core.Logic.{⊎_elim}
use mathlib.Core.Bool.{false}
use Prim.Native.Nat.{ℕ, zero, suc, ◌^◌, ◌≤◌, ◌<◌}
use native.Mathlib.Omega.{arith}
use lib.Dec.{ltb}
use lib.IntN.{ℤ, pos, negsuc, nat_abs, ◌+ℤ◌, ◌-ℤ◌}
use lib.Signed.{mag, lt_z, le_z}
use mir.ValLaws.{to_z_pos}
use mir.Syntax.{w64}
use mir.Val.{to_z, SFits}
use Rattle.whole.specs.Whole.{dn, Within}
use Rattle.whole.proofs.Linear.{whole, one}
use Rattle.whole.proofs.Words.{halves}
use Rattle.stakes.specs.inner.Changes.{AmountOf}
use Rattle.rules.specs.Limits.{limit, least_stake}

-- a word of a number that is not negative is that number
word-is : (w : ℕ) → w < 2 ^ 64 → dn (to_z w64 w) ≡ 0 → to_z w64 w ≡ pos w
word-is w h z = ⊎_elim (λ l. omega (arith, whole, l.above, l.below)) (λ l. absurd (omega (arith, l.below))) (halves w h)

-- whether the word of a stake that is not below the least is above the limit
pub over-is : (w : ℕ) (z : ℤ) → w < 2 ^ 64 → to_z w64 w ≡ z → lt_z z (pos least_stake) ≡ false → lt_z (pos limit) z ≡ ltb limit w
over-is w z h e low = ap (lt_z (pos limit)) (sym e ∙ word-is w h (ap dn e ∙ omega (arith, whole, low, one z)))

-- ---- sums and differences that fit

pub sum_fits : (most : ℕ) (v z : ℤ) → most ≤ 2 ^ 62 → Within most v → Within limit z → SFits w64 (v +ℤ z)
sum_fits most v z m h k = omega (arith, whole)

pub dif-fits : (most : ℕ) (v z : ℤ) → most ≤ 2 ^ 62 → Within most v → Within limit z → SFits w64 (v -ℤ z)
dif-fits most v z m h k = omega (arith, whole)

-- an amount that is not above a stake
pub part-within : (x : ℤ) (n : ℕ) → Within limit x → lt_z x (pos n) ≡ false → Within limit (pos n)
part-within x n h q = omega (arith, whole, one x)

-- an amount above 0 goes into a word, and is found there
pub amount_of : (z : ℤ) → mag z < 2 ^ 63 → le_z z (pos 0) ≡ false → AmountOf z (nat_abs z)
amount_of (pos zero) small some = cc
amount_of (pos (suc n)) small some = record { some = omega arith; is = refl; word = to_z_pos w64 (suc n) small }
amount_of (negsuc n) small some = cc
