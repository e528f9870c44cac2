-- `limbs::product::product` meets its contract: with the masks and the shifts read as remainders and quotients by 2 ^ 32, the body adds the
-- columns of a product of two digits each (`columns`). Every sum fits because the last one does.
use Rattle.std.proofs.Common.{◌≡◌, ℕ, ◌+◌, ◌*◌, ◌/◌, ◌%◌, ◌^◌, ◌<◌, ◌≤◌, ◌∙◌, le_of_eq, lt_of_le_of_lt, mod-eq_of_lt, arith, w64, Fits}
use lib.Pow.{split}
use lib.Bits.{bit_and, and_mask}
use mir.Facts.{Fits-bits}
use Rattle.limbs.proofs.Limbs.{shl-keeps, product_lt, upper_lt}
use Rattle.limbs.proofs.product.product.Goals as goal

-- Multiplying two numbers of two digits in base 2 ^ 32: the middle column's sum is `middle` with the carry c, and its lower digit m0, moved
-- up one place, makes `low` with the carry e and the bottom column. omega multiplies out, and sorts the monomials.
columns : (a0 a1 b0 b1 c middle m0 m1 e low : ℕ) → c * 2 ^ 64 + middle ≡ a0 * b1 + a1 * b0 → m1 * 2 ^ 32 + m0 ≡ middle → e * 2 ^ 64 + low ≡ a0 * b0 + m0 * 2 ^ 32 → (a1 * b1 + m1 + c * 2 ^ 32 + e) * 2 ^ 64 + low ≡ (a1 * 2 ^ 32 + a0) * (b1 * 2 ^ 32 + b0)
columns a0 a1 b0 b1 c middle m0 m1 e low h1 h2 h3 = omega arith

-- the upper limb as the body computes it, of the middle column's carry and limb and the bottom column's carry
abbrev upper : (a b c m e : ℕ) → ℕ
upper a b c m e = a / 2 ^ 32 * (b / 2 ^ 32) + m / 2 ^ 32 + (c * 2 ^ 32) % 2 ^ 64 + e

-- what the two calls of `add_carry` give, of a and b: the carry c and the limb m of the middle column, e and l of the bottom one
module _ (a b c m e l : ℕ)
    (middle : c * 2 ^ 64 + m ≡ bit_and a 0xffff_ffff * (b / 2 ^ 32) + a / 2 ^ 32 * bit_and b 0xffff_ffff)
    (small : c ≤ 1)
    (bottom : e * 2 ^ 64 + l ≡ bit_and a 0xffff_ffff * bit_and b 0xffff_ffff + (m * 2 ^ 32) % 2 ^ 64)
  where
    whole : upper a b c m e * 2 ^ 64 + l ≡ a * b
    whole =
        rw (mod-eq_of_lt {n = c * 2 ^ 32} {m = 2 ^ 64} (omega arith))
        (columns (a % 2 ^ 32) (a / 2 ^ 32) (b % 2 ^ 32) (b / 2 ^ 32) c m (m % 2 ^ 32) (m / 2 ^ 32) e l
        (rw (and_mask a 32, and_mask b 32) at middle)
        (split m 32)
        (rw (and_mask a 32, and_mask b 32, shl-keeps m 32 32) at bottom)
        ∙ (λ i. split a 32 i * split b 32 i))

    upper_fits : a < 2 ^ 64 → b < 2 ^ 64 → Fits w64 (upper a b c m e)
    upper_fits ha hb =
        Fits-bits 64 tt (upper_lt (2 ^ 64) (upper a b c m e) l (lt_of_le_of_lt (le_of_eq whole) (product_lt 64 64 ha hb)))

pub returns : goal.returns
returns c =
    let b = c.before.before.before in
    let m = b.before.before in
    whole _ _ _ _ _ _ m.add_carry-middle.ensures.0 m.add_carry-middle.ensures.1 b.add_carry-bottom.ensures.0
