-- What the two answers of a banked accrual say of it.
use mathlib.Core.Path.{◌≡◌, refl}
use mathlib.Core.Bool.{Bool, true, false, cond}
use Prim.Native.Nat.{ℕ}
use native.Mathlib.Omega.{arith}
use lib.Dec.{ltb, leb}
use borrow.Author.Tests.{leb-true, leb-false, le-ltb, lt-ltb}
use Rattle.rules.specs.Limits.{limit}
use Rattle.rules.specs.Terms.{banked_answer}
use Rattle.std.specs.Prelude.{Ok, Err}
use Rattle.rules.specs.declared.refusal.Refusal.{Refusal}
use Rattle.rules.specs.declared.refusal.Refusal.TheVariants.{OverLimit}

pub banked-to : (n a : ℕ) → Ok a ≡ banked_answer n → (a ≡ n) × (ltb limit n ≡ false)
banked-to n a = go (leb n limit) refl
  where
    go : (t : Bool) → leb n limit ≡ t → Ok a ≡ cond t (Ok n) (Err OverLimit) → (a ≡ n) × (ltb limit n ≡ false)
    go true e q = (cc, le-ltb limit n (leb-true n limit e))
    go false e q = absurd (let z : ◌≡◌ {A = ℕ} 0 1 = cc in omega arith)

pub banked-over : (n : ℕ) (r : Refusal) → Err r ≡ banked_answer n → (r ≡ OverLimit) × (ltb limit n ≡ true)
banked-over n r = go (leb n limit) refl
  where
    go : (t : Bool) → leb n limit ≡ t → Err r ≡ cond t (Ok n) (Err OverLimit) → (r ≡ OverLimit) × (ltb limit n ≡ true)
    go true e q = absurd (let z : ◌≡◌ {A = ℕ} 0 1 = cc in omega arith)
    go false e q = (cc, lt-ltb limit n (leb-false n limit e))
