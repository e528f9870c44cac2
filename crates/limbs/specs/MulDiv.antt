-- Multiply and divide, of words and of signed numbers: the quotient and the remainder, or that the quotient has no word.
use Rattle.std.specs.Prelude.{ℕ, ◌*◌, ◌/◌, ◌%◌, ◌^◌, cond, ◌&&◌, Option, Some, None, ℤ, nat_lt, unsigned_abs}
use Rattle.std.specs.Int.{w64}
use Rattle.std.proofs.Common.{of_z}
use Rattle.whole.specs.Shares.{share, dropped}
use Rattle.limbs.specs.declared.Divided.{Divided}

-- a * b / d and a * b % d, where d is not 0 and the quotient is below 2 ^ 64
abbrev pub mul_div : ℕ → ℕ → ℕ → Option Divided
mul_div a b d =
    cond (nat_lt 0 d && nat_lt (a * b / d) (2 ^ 64)) (Some (record { quotient = a * b / d; remainder = a * b % d })) None

-- x * m / d rounded toward zero and what it drops, as words in two's complement, where d is not 0 and both are below 2 ^ 63 in size
abbrev pub signed_mul_div : ℤ → ℕ → ℕ → Option Divided
signed_mul_div x m d =
    cond (nat_lt 0 d && nat_lt (unsigned_abs (share x m d)) (2 ^ 63) && nat_lt (unsigned_abs (dropped x m d)) (2 ^ 63))
    (Some (record { quotient = of_z w64 (share x m d); remainder = of_z w64 (dropped x m d) }))
    None
