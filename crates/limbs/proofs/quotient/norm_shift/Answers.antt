-- `limbs::shift::norm_shift` meets its contract: d is not 0, so it has a highest set bit j, and its leading zeros make 64 with j + 1.
--
use Rattle.std.proofs.Common.{◌≡◌, ℕ, suc, ◌+◌, ◌*◌, ◌^◌, ◌<◌, ◌≤◌, sym, ap, ◌∙◌, subst, mul-le-mul_right, arith, pow-add, shl_lt}
use lib.Count.{count_leading_zeros, leading_top}
use Rattle.limbs.proofs.quotient.norm_shift.Goals as goal

-- a number whose highest set bit is j, shifted up by the s that makes 64 with j + 1
normalized : (d j s : ℕ) → s + suc j ≡ 64 → 2 ^ j ≤ d → d < 2 ^ suc j → (s < 64) × (2 ^ 63 ≤ d * 2 ^ s) × (d * 2 ^ s < 2 ^ 64)
normalized d j s e lo hi =
    let bottom : j + s ≡ 63 = omega arith in
    let top : suc j + s ≡ 64 = omega arith in (
      omega arith,
      omega (arith, sym (pow-add 2 j s) ∙ ap (λ (x : ℕ). 2 ^ x) bottom, mul-le-mul_right (2 ^ s) lo),
      subst (λ (x : ℕ). d * 2 ^ s < 2 ^ x) top (shl_lt {a = d} (suc j) s hi),
    )

pub returns : goal.returns
returns c =
    let top = leading_top 64 c.args.d c.requires c.ranges.d.fits in
    normalized c.args.d top.0 (count_leading_zeros 64 c.args.d) top.1 top.2 top.3
