-- The two cases of `yield_answer`, from those of the multiply-and-divide.
use mathlib.Core.Bool.{Bool, true, false, cond}
use mathlib.Core.Path.{◌≡◌, refl, ap}
use Prim.Native.Nat.{ℕ, ◌^◌, ◌≤◌, ◌<◌}
use lib.Dec.{ltb}
use lib.IntN.{ℤ, nat_abs}
use borrow.Author.Tests.{ltb-true, ltb-false}
use mir.Syntax.{w64}
use mir.Val.{of_z}
use Rattle.whole.specs.Shares.{share}
use Rattle.limbs.specs.MulDiv.{signed_mul_div}
use Rattle.limbs.specs.declared.Divided.{Divided}
use Rattle.limbs.proofs.Cases.{signed-exact, signed-large}
use Rattle.rules.specs.Terms.{yield_answer}
use Rattle.std.specs.Prelude.{Option, Some, None}

-- the quotient alone
abbrev pub as_yield : Option Divided → Option ℕ
as_yield (Some v) = Some v.quotient
as_yield None = None

-- of a divisor that is not past 2 ^ 63, the answer says whether the quotient has a word
pub yield-is : (x : ℤ) (m d : ℕ) → 0 < d → d ≤ 2 ^ 63 → as_yield (signed_mul_div x m d) ≡ yield_answer (share x m d)
yield-is x m d some most = go (ltb (nat_abs (share x m d)) (2 ^ 63)) refl
  where
    go : (t : Bool) → ltb (nat_abs (share x m d)) (2 ^ 63) ≡ t → as_yield (signed_mul_div x m d) ≡ cond t (Some (of_z w64 (share x m d))) None
    go true e = ap as_yield (signed-exact x m d some most (ltb-true _ _ e))
    go false e = ap as_yield (signed-large x m d some (ltb-false _ _ e))
