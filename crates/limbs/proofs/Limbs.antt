-- Laws of halves and limbs, of numbers of two limbs and of shifts.
use Rattle.std.proofs.Common.{◌≡◌, ℕ, ◌+◌, ◌*◌, ◌/◌, ◌%◌, ◌^◌, ◌<◌, sym, ap, ◌∙◌, lt_of_le_of_lt, add-zero, le_of_lt, mod-lt, div-lt_iff_lt-mul, lt_of_mul-lt-mul_right, mul-le-mul_left, div-add-mod', mul-div_cancel, arith, shl_lt}
use native.Mathlib.Nat.{mul-mod_left}
use lib.Bits.{bit_and, and_mask}
use lib.Pow.{shl-shr, mod-pow-add, split}
use lib.Arith.{digits_div, digits_mod}

-- the halves of a limb make it
pub halves : (v : ℕ) → v / 2 ^ 32 * 2 ^ 32 + bit_and v 0xffff_ffff ≡ v
halves v = rw (and_mask v 32) (split v 32)

-- a shift to the left by k in a word of j + k bits keeps the low j bits
pub shl-keeps : (n j k : ℕ) → (n * 2 ^ k) % 2 ^ (j + k) ≡ (n % 2 ^ j) * 2 ^ k
shl-keeps n j k = mod-pow-add (n * 2 ^ k) j k ∙ rw (shl-shr, mul-mod_left, add-zero)

-- a product of numbers of j and k bits has at most j + k bits
pub product_lt : {a b : ℕ} (j k : ℕ) → a < 2 ^ j → b < 2 ^ k → a * b < 2 ^ (j + k)
product_lt {a} j k ha hb = lt_of_le_of_lt (mul-le-mul_left a (le_of_lt hb)) (shl_lt j k ha)

-- the upper limb of what has two limbs is a limb. The base is a variable: at 2 ^ 64 the bound is 2 ^ 128, of 39 digits, and omega reads no
-- number of more than 38.
pub upper_lt : (B high low : ℕ) → high * B + low < B * B → high < B
upper_lt B high low h = lt_of_mul-lt-mul_right B (omega arith)

-- an upper limb over a low one below the base is the whole where the low one is 0, as it is for a multiple of the base
pub upper_is : (B X N low : ℕ) → low < B → X * B + low ≡ N * B → X ≡ N
upper_is B X N low h e = sym (digits_div X h) ∙ ap (λ (x : ℕ). x / B) e ∙ mul-div_cancel N (omega arith)

-- Division with dividend and divisor both S times as large: the quotient is as it was, and the remainder is S times as large.
pub unshift : (S d q rest N : ℕ) → 0 < S → q * (d * S) + rest ≡ N * S → rest < d * S → (q ≡ N / d) × (rest / S ≡ N % d)
unshift S d q rest N hS e hr =
    let t : ℕ = rest / S in
    let ht : t < d = (div-lt_iff_lt-mul hS).1 hr in
    let whole : q * d + t ≡ N = upper_is S (q * d + t) N (rest % S) (mod-lt rest hS) (omega (arith, e, div-add-mod' rest S)) in
    (sym (digits_div q ht) ∙ ap (λ (x : ℕ). x / d) whole, sym (digits_mod q ht) ∙ ap (λ (x : ℕ). x % d) whole)
