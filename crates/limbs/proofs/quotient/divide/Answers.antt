-- `divide` meets its contract: a high limb of 0 adds nothing; else two digits of the shifted dividend by the shifted divisor, and the shift
-- undone.
use Rattle.std.proofs.Common.{◌≡◌, ℕ, ◌+◌, ◌*◌, ◌/◌, ◌%◌, ◌^◌, ◌∙◌, mod-eq_of_lt, arith, pow_pos}
use lib.Bits.{bit_and}
use Rattle.limbs.proofs.Limbs.{halves, unshift}
use Rattle.limbs.proofs.quotient.divide.Goals as goal

-- two digits: q1 leaves r1 of h and l1, and q0 leaves r0 of r1 and l0
two_digits : (v h l l1 l0 q1 r1 q0 r0 : ℕ) → l1 * 2 ^ 32 + l0 ≡ l → q1 * v + r1 ≡ h * 2 ^ 32 + l1 → q0 * v + r0 ≡ r1 * 2 ^ 32 + l0 → (q1 * 2 ^ 32 + q0) * v + r0 ≡ h * 2 ^ 64 + l
two_digits v h l l1 l0 q1 r1 q0 r0 e e1 e0 = omega arith

pub returns : goal.returns
returns c =
    let s = c.norm_shift-s.result in
    let l = c.shifted-m.result.low in
    let v : (c.args.d * 2 ^ s) % 2 ^ 64 ≡ c.args.d * 2 ^ s = mod-eq_of_lt c.norm_shift-s.ensures.2 in
    let kept : (c.next_digit-top.result.quotient * 2 ^ 32) % 2 ^ 64 ≡ c.next_digit-top.result.quotient * 2 ^ 32 = mod-eq_of_lt (omega (arith, c.next_digit-top.ensures.2)) in
    let whole = two_digits _ c.shifted-m.result.high l (l / 2 ^ 32) (bit_and l 0xffff_ffff) _ _ _ _ (halves l) c.next_digit-top.ensures.0 c.next_digit-bottom.ensures.0 in
    rw kept
    (unshift (2 ^ s) c.args.d _ _ _ (pow_pos s) (rw v at (whole ∙ c.shifted-m.ensures)) (rw v at c.next_digit-bottom.ensures.1))
