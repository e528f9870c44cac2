-- A share by its parts: the signs are gone, and what is left is a product and a quotient of ℕ.
use Rattle.std.proofs.Common.{◌≡◌, ℕ, suc, ◌*◌, ◌/◌, ◌%◌, ◌<◌, ◌≤◌, ℤ, pos, negsuc, ◌+ℤ◌, ◌*ℤ◌, nat_abs, refl, ap, ◌∙◌, zero-le, mod-lt, mul-le-mul_left, zero-mul, arith, le-ltb}
use native.Mathlib.Nat.{zero-div, zero-mod, div-le_of_le-mul}
use lib.Signed.{lt_z}
use Rattle.whole.specs.Whole.{up, dn, signed_z}
use Rattle.whole.specs.Shares.{share, dropped}
use Rattle.std.proofs.lemmas.Int.{quot-rem}
use borrow.Author.Differences.{quot_is, rem_is}
use Rattle.whole.proofs.Linear.{whole, neg, one, abs}

pub times : (x : ℤ) (l : ℕ) → (up (x *ℤ pos l) ≡ up x * l) × (dn (x *ℤ pos l) ≡ dn x * l)
times x l = omega (arith, whole)

-- the parts of a share, and of what it drops
pub share-is : (x : ℤ) (l t : ℕ) → (up (share x l t) ≡ up x * l / t) × (dn (share x l t) ≡ dn x * l / t)
share-is x l t =
    let parts = quot_is (x *ℤ pos l) t in
    (parts.0 ∙ ap (λ (v : ℕ). v / t) (times x l).0, parts.1 ∙ ap (λ (v : ℕ). v / t) (times x l).1)

pub dropped-is : (x : ℤ) (l t : ℕ) → (up (dropped x l t) ≡ up x * l % t) × (dn (dropped x l t) ≡ dn x * l % t)
dropped-is x l t =
    let z = x *ℤ pos l in
    let parts = rem_is z t in
    (parts.0 ∙ ap (λ (v : ℕ). v % t) (omega (arith, times x l, one z)), parts.1 ∙ ap (λ (v : ℕ). v % t) (omega (arith, times x l, one z)))

-- t times the share and what it drops make the product, and what it drops is smaller in size than t
pub share-exact : (x : ℤ) (l t : ℕ) → share x l t *ℤ pos t +ℤ dropped x l t ≡ x *ℤ pos l
share-exact x l t = quot-rem (x *ℤ pos l) (pos t)

pub dropped-small : (x : ℤ) (l t : ℕ) → 0 < t → (up (dropped x l t) < t) × (dn (dropped x l t) < t)
dropped-small x l t h = omega (arith, dropped-is x l t, mod-lt (up x * l) h, mod-lt (dn x * l) h)

-- a share of at most the whole: 0 ≤ share ≤ x for x ≥ 0, and x ≤ share ≤ 0 for x ≤ 0
pub part-le : (n l t : ℕ) → l ≤ t → n * l / t ≤ n
part-le n l t h = div-le_of_le-mul t (omega (arith, mul-le-mul_left n h))

pub share-le : (x : ℤ) (l t : ℕ) → l ≤ t → (up (share x l t) ≤ up x) × (dn (share x l t) ≤ dn x)
share-le x l t h = omega (arith, share-is x l t, part-le (up x) l t h, part-le (dn x) l t h)

-- made of a sign and a magnitude, as it is computed
pub share-signed : (x : ℤ) (l t : ℕ) → signed_z (lt_z x (pos 0)) (nat_abs x * l / t) ≡ share x l t
share-signed (pos n) l t = rw (le-ltb n 0 zero-le)
share-signed (negsuc n) l t = omega (arith, whole, share-is (negsuc n) l t, neg (pos (suc n * l / t)), zero-mul l, ap (λ (v : ℕ). v / t) (zero-mul l), zero-div t)

pub dropped-signed : (x : ℤ) (l t : ℕ) → signed_z (lt_z x (pos 0)) (nat_abs x * l % t) ≡ dropped x l t
dropped-signed (pos n) l t = rw (le-ltb n 0 zero-le)
dropped-signed (negsuc n) l t = omega (arith, whole, dropped-is (negsuc n) l t, neg (pos (suc n * l % t)), zero-mul l, ap (λ (v : ℕ). v % t) (zero-mul l), zero-mod t)

-- the sizes of both
pub share-size : (x : ℤ) (l t : ℕ) → nat_abs (share x l t) ≡ nat_abs x * l / t
share-size (pos n) l t = refl
share-size (negsuc n) l t = omega (arith, abs (share (negsuc n) l t), share-is (negsuc n) l t, ap (λ (v : ℕ). v / t) (zero-mul l), zero-div t)

pub dropped-size : (x : ℤ) (l t : ℕ) → nat_abs (dropped x l t) ≡ nat_abs x * l % t
dropped-size (pos n) l t = refl
dropped-size (negsuc n) l t = omega (arith, abs (dropped (negsuc n) l t), dropped-is (negsuc n) l t, ap (λ (v : ℕ). v % t) (zero-mul l), zero-mod t)
