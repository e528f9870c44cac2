-- `next_digit` meets its contract. The guess times v and what is left make the number divided and what the lower half of v takes; so a digit
-- that is k below the guess leaves k times v more.
use Rattle.std.proofs.Common.{◌≡◌, ℕ, ◌+◌, ◌-◌, ◌*◌, ◌/◌, ◌%◌, ◌^◌, ◌<◌, ◌≤◌, ap, mul-le-mul_right, mod-eq_of_lt, lt_of_mul-lt-mul_right, div-mul-le_self, arith}
use native.Mathlib.Nat.{lt-div-mul-add}
use lib.Bits.{bit_and, mask_lt}
use Rattle.limbs.proofs.Limbs.{halves}
use Rattle.limbs.proofs.quotient.next_digit.Goals as goal

-- the guess by the upper half u of u * 2 ^ 32 + w: what it leaves, and what the lower half w takes
balanced : (u w rest half g : ℕ) → g * u ≤ rest → g * (u * 2 ^ 32 + w) + ((rest - g * u) * 2 ^ 32 + half) ≡ rest * 2 ^ 32 + half + g * w
balanced u w rest half g h = omega arith

-- the guess is at most 2 ^ 32 + 1, so that what the lower half takes is a limb
taken-fits : (u w rest g : ℕ) → 2 ^ 31 ≤ u → w < 2 ^ 32 → rest < u * 2 ^ 32 + w → g * u ≤ rest → g * w < 2 ^ 64
taken-fits u w rest g hu hw hr hg =
    let few : g < 2 ^ 32 + 2 = lt_of_mul-lt-mul_right u (omega arith) in
    let most : g ≤ 2 ^ 32 + 1 = omega arith in
    omega (arith, mul-le-mul_right w most)

-- what is given: v has its top bit set, and rest is below it
module _ (v rest half : ℕ) (given : (2 ^ 63 ≤ v) × (rest < v) × (half < 2 ^ 32)) (word : v < 2 ^ 64) where
  abbrev upper : ℕ
  upper = v / 2 ^ 32

  abbrev lower : ℕ
  lower = bit_and v 0xffff_ffff

  abbrev guess : ℕ
  guess = rest / upper

  abbrev left : ℕ
  left = ((rest - guess * upper) * 2 ^ 32) % 2 ^ 64 + half

  abbrev taken : ℕ
  taken = guess * lower

  top_set : 2 ^ 31 ≤ upper
  top_set = omega arith

  under : guess * upper ≤ rest
  under = div-mul-le_self rest upper

  over : rest < guess * upper + upper
  over = lt-div-mul-add {a = rest} {b = upper} (omega (arith, top_set))

  kept : ((rest - guess * upper) * 2 ^ 32) % 2 ^ 64 ≡ (rest - guess * upper) * 2 ^ 32
  kept = mod-eq_of_lt (omega (arith, over))

  whole : guess * v + left ≡ rest * 2 ^ 32 + half + taken
  whole = rw kept (rw (halves v) at (balanced upper lower rest half guess under))

  left_lt : left < v
  left_lt = rw kept (omega (arith, over))

  taken-lt : taken < 2 ^ 64
  taken-lt = taken-fits upper lower rest guess top_set (mask_lt v 32) (rw (halves v) given.1) under

  -- where more than k times v is missing, the guess is above k
  above : (k : ℕ) → left + k * v < taken → k < guess
  above k h = lt_of_mul-lt-mul_right v (omega (arith, whole))

  one-too-large : left < taken → 1 ≤ guess
  one-too-large h = above 0 (omega arith)

  -- so where v is missing it is above 1: some is taken, so the guess is not 0, nor then the number divided
  two-too-large : v ≤ taken - left → 2 ≤ guess
  two-too-large h =
      let some : 1 ≤ guess = one-too-large (omega arith) in
      let divided : 0 < rest = omega (arith, top_set, under, mul-le-mul_right upper some) in
      lt_of_mul-lt-mul_right v (omega (arith, whole, divided))

  -- the digit q that is k below the guess, and what it leaves
  lowered : (q k r : ℕ) → q + k ≡ guess → r + taken ≡ left + k * v → r < v → (q * v + r ≡ rest * 2 ^ 32 + half) × (r < v) × (q < 2 ^ 32)
  lowered q k r hk e hr =
      let all : q * v + r ≡ rest * 2 ^ 32 + half = omega (arith, whole, ap (λ (x : ℕ). x * v) hk) in
      (all, hr, lt_of_mul-lt-mul_right v (omega (arith, all)))

pub returns-then-taken-left : goal.returns-then-taken-left
returns-then-taken-left c =
    let a = c.args in
    lowered a.v a.rest a.half c.requires (omega arith) _ 0 _ (omega arith) (omega arith) (omega (arith, left_lt a.v a.rest a.half c.requires (omega arith)))

pub overflow_sub-result-then-short-v : goal.overflow_sub-result-then-short-v
overflow_sub-result-then-short-v c =
    let a = c.args in
    omega (arith, one-too-large a.v a.rest a.half c.requires (omega arith) c.if-taken-left.false)

pub returns-then-short-v : goal.returns-then-short-v
returns-then-short-v c =
    let a = c.args in
    lowered a.v a.rest a.half c.requires (omega arith) _ 1 _ (omega (arith, overflow_sub-result-then-short-v c)) (omega arith) (omega arith)

pub overflow_sub-result-2 : goal.overflow_sub-result-2
overflow_sub-result-2 c =
    let a = c.args in
    two-too-large a.v a.rest a.half c.requires (omega arith) (omega arith)

pub returns : goal.returns
returns c =
    let a = c.args in
    lowered a.v a.rest a.half c.requires (omega arith) _ 2 _ (omega (arith, overflow_sub-result-2 c)) (omega (arith, taken-lt a.v a.rest a.half c.requires (omega arith))) (omega arith)
