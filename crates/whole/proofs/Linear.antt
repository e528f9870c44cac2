-- Linear arithmetic over ℤ by `omega`, which reads ℕ alone: each z : ℤ is `up z − dn z`, of two naturals one of which is 0. The set `whole` is
-- std's `ints`: by it  omega (arith, whole)  reads orders, equations, tests and ranges of ℤ, and what a compound term is made of.
-- What the set does not tell, a fact in the list does:
--     one a      that one of `up a` and `dn a` is 0
--     abs a      of nat_abs a, with `one a`
--     range a    that an i64's parts are bounded, from a hypothesis  SFits w64 a
--     low w ..   of to_z w64 w, at a word below 2 ^ 63; high w .. at one from there up (`Words`)
--     sum a b, dif a b, neg a     of a +ℤ b, a -ℤ b and neg_ℤ a, for  omega arith  without the set
-- A fact that is in reach under no name, as a test's answer, is read once a `let` names it:
--     let test = sym c.less-words.ensures ∙ c.if1.taken in omega (arith, whole)
use Rattle.std.proofs.Common.{◌≡◌, ℕ, suc, ◌+◌, ◌^◌, ◌≤◌, min, Bool, true, false, ◌↔◌, ℤ, pos, negsuc, ◌+ℤ◌, ◌-ℤ◌, neg_ℤ, nat_abs, ◌≤ℤ◌, ◌<ℤ◌, refl, arith, w64, SFits}
use Rattle.std.proofs.lemmas.Bool.{cond_both}
use borrow.Author.Differences.{ints}
use lib.Signed.{lt_z, mag}
use Rattle.whole.specs.Whole.{up, dn, Within, min_z, signed_z}
pub use borrow.Author.Differences.{lt-true, lt-false, le-true, le-false}

pub ruleset whole = ints

-- ---- what a compound term is made of

pub sum : (a b : ℤ) → up (a +ℤ b) + (dn a + dn b) ≡ up a + up b + dn (a +ℤ b)
sum a b = omega (arith, ints)

pub neg : (a : ℤ) → (up (neg_ℤ a) ≡ dn a) × (dn (neg_ℤ a) ≡ up a)
neg a = omega (arith, ints)

pub dif : (a b : ℤ) → up (a -ℤ b) + (dn a + up b) ≡ up a + dn b + dn (a -ℤ b)
dif a b = omega (arith, ints)

pub one : (a : ℤ) → min (up a) (dn a) ≡ 0
one (pos n) = omega arith
one (negsuc n) = omega arith

pub abs : (a : ℤ) → (nat_abs a ≡ up a + dn a) × (min (up a) (dn a) ≡ 0)
abs a = omega (arith, ints, one a)

-- ---- ranges

pub within-abs : {B : ℕ} {z : ℤ} → nat_abs z ≤ B → Within B z
within-abs {B} {z} h = omega (arith, abs z)

-- the range of an i64. A hypothesis `SFits w64 z` is read as  mag z < 2 ^ 63,  and `range z` ties that to the parts
pub range : (z : ℤ) → (up z ≤ mag z) × (dn z ≤ suc (mag z))
range z = omega (arith, ints, one z)

-- ---- what the definitions of `Whole` are

pub within-order : (B : ℕ) (z : ℤ) → Within B z ↔ (pos 0 ≤ℤ (z +ℤ pos B)) × (z ≤ℤ pos B)
within-order B z = ((λ h. (omega (arith, whole), omega (arith, whole, one z))), (λ h. omega (arith, whole, h.0, h.1, one z)))

pub lesser-is : (a b : ℤ) → up (min_z a b) + (dn a + dn b) ≡ min (up a + dn b) (up b + dn a) + dn (min_z a b)
lesser-is a b =
    cond_both (lt_z a b) a b (λ z. up z + (dn a + dn b) ≡ min (up a + dn b) (up b + dn a) + dn z) (λ t. omega (arith, whole)) (λ t. omega (arith, whole))

pub signed_is : (n : Bool) (m : ℕ) → (n ≡ true → (up (signed_z n m) ≡ 0) × (dn (signed_z n m) ≡ m)) × (n ≡ false → (up (signed_z n m) ≡ m) × (dn (signed_z n m) ≡ 0))
signed_is true m = ((λ e. neg (pos m)), (λ e. absurd cc))
signed_is false m = ((λ e. absurd cc), (λ e. (refl, refl)))

pub signed-size : (n : Bool) (m : ℕ) → up (signed_z n m) + dn (signed_z n m) ≡ m
signed-size true m = omega (arith, whole)
signed-size false m = omega arith

-- ---- what the set closes

mixed : (a b c d : ℤ) → a ≤ℤ b → (b +ℤ c) ≤ℤ d → (a +ℤ c) ≤ℤ d
mixed a b c d h k = omega (arith, whole)

nested : (a b c : ℤ) → a -ℤ (b +ℤ c) ≡ (a -ℤ b) -ℤ c
nested a b c = omega (arith, whole)

sum_fits : (a b : ℤ) → Within (2 ^ 62) a → Within (2 ^ 61) b → SFits w64 (a +ℤ b)
sum_fits a b h k = omega (arith, whole)

dif-fits : (a b : ℤ) → SFits w64 a → pos 0 ≤ℤ a → b <ℤ a → lt_z b (pos 0) ≡ false → SFits w64 (a -ℤ b)
dif-fits a b h p q r = omega (arith, whole)
