-- `limbs::shift::shifted` meets its contract. With S = 2 ^ s and T = 2 ^ (64 - s), so that T * S is the limb's 2 ^ 64, the low limb is
-- u * T + r: its upper part u moves to the high limb, and r * S stays.
use Rattle.std.proofs.Common.{◌≡◌, ℕ, ◌+◌, ◌-◌, ◌*◌, ◌/◌, ◌%◌, ◌^◌, ◌<◌, ◌≤◌, sym, ap, ◌∙◌, subst, mod-eq_of_lt, add_comm, arith, pow_pos, pow-add, shr_lt, w64, Fits}
use lib.Pow.{split}
use Rattle.limbs.proofs.Limbs.{shl-keeps}
use Rattle.limbs.proofs.quotient.shifted.Goals as goal

-- the sum of monomials that both sides come to
moved : (S T h l u r : ℕ) → u * T + r ≡ l → (h * S + u) * (T * S) + r * S ≡ (h * (T * S) + l) * S
moved S T h l u r e = omega (arith, ap (λ (x : ℕ). x * S) e)

module _ (h l s : ℕ) (pre : (s < 64) × ((h + 1) * 2 ^ s ≤ 2 ^ 64)) where
  -- 64 is 64 - s and s, and 2 ^ 64 the product of their powers
  sum : 64 - s + s ≡ 64
  sum = omega arith

  word : 2 ^ (64 - s) * 2 ^ s ≡ 2 ^ 64
  word = sym (pow-add 2 (64 - s) s) ∙ ap (λ (x : ℕ). 2 ^ x) sum

  -- the high limb loses no bit
  kept : (h * 2 ^ s) % 2 ^ 64 ≡ h * 2 ^ s
  kept = mod-eq_of_lt (omega (arith, pow_pos s))

  fits : l < 2 ^ 64 → Fits w64 ((h * 2 ^ s) % 2 ^ 64 + l / 2 ^ (64 - s))
  fits hl =
      let u : l / 2 ^ (64 - s) < 2 ^ s = shr_lt s (64 - s) (subst (λ (x : ℕ). l < 2 ^ x) (sym (add_comm s (64 - s) ∙ sum)) hl) in
      rw kept (omega arith)

  value : ((h * 2 ^ s) % 2 ^ 64 + l / 2 ^ (64 - s)) * 2 ^ 64 + (l * 2 ^ s) % 2 ^ 64 ≡ (h * 2 ^ 64 + l) * 2 ^ s
  value =
      let low : (l * 2 ^ s) % 2 ^ 64 ≡ (l % 2 ^ (64 - s)) * 2 ^ s = subst (λ (x : ℕ). (l * 2 ^ s) % 2 ^ x ≡ (l % 2 ^ (64 - s)) * 2 ^ s) sum (shl-keeps l (64 - s) s) in
      rw (kept, low)
      (subst (λ (B : ℕ). (h * 2 ^ s + l / 2 ^ (64 - s)) * B + (l % 2 ^ (64 - s)) * 2 ^ s ≡ (h * B + l) * 2 ^ s) word
      (moved (2 ^ s) (2 ^ (64 - s)) h l (l / 2 ^ (64 - s)) (l % 2 ^ (64 - s)) (split l (64 - s))))

pub overflow_add-result : goal.overflow_add-result
overflow_add-result c =
    let b = c.before.before.before in
    fits b.args.n.high b.args.n.low b.args.s b.requires (omega arith)

pub returns-else-s-eq0 : goal.returns-else-s-eq0
returns-else-s-eq0 c =
    let b = c.before.before.before.before in
    value b.args.n.high b.args.n.low b.args.s b.requires
