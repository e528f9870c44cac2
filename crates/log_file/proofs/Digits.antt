-- How many digits a number has, and the text of a signed one.
use mathlib.Core.Path.{◌≡◌, refl, sym}
use mathlib.Core.Bool.{true, false, true≢false}
use mathlib.Core.List.{◌∷◌}
use Prim.Native.Nat.{ℕ, zero, suc, ◌+◌, ◌*◌, ◌/◌, ◌^◌, ◌≤◌, ◌<◌}
use native.Mathlib.Omega.{arith}
use borrow.Author.Tests.{ltb-true}
use lib.IntN.{ℤ, pos, negsuc, nat_abs}
use lib.Signed.{lt_z}
use lib.ListN.{length}
use Rattle.std.specs.Fmt.{decimal, signed_decimal}
use Rattle.itoa.proofs.Decimal.{length_one, length_step_wide}

-- by the power of ten that it reaches
pub digits-are : (k n : ℕ) → 10 ^ k ≤ n → n < 10 * 10 ^ k → n < 2 ^ 128 → k + 1 ≡ length (decimal n)
digits-are zero n l u w = sym (length_one n (omega arith))
digits-are (suc k) n l u w = omega (arith, length_step_wide n (omega arith) w, digits-are k (n / 10) (omega arith) (omega arith) (omega arith))

-- a signed one, by its sign and its magnitude
pub signed-negative : (x : ℤ) → lt_z x (pos 0) ≡ true → signed_decimal x ≡ 45 ∷ decimal (nat_abs x)
signed-negative (pos n) e = absurd (omega (arith, ltb-true n 0 e))
signed-negative (negsuc n) e = refl

pub signed-other : (x : ℤ) → lt_z x (pos 0) ≡ false → signed_decimal x ≡ decimal (nat_abs x)
signed-other (pos n) e = refl
signed-other (negsuc n) e = absurd (true≢false e)
