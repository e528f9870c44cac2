-- Bounds of a pool's yield rate and of a capped amount, from the range of the table.
use Prim.Native.Nat.{ℕ, ◌*◌, ◌/◌, ◌≤◌}
use native.Mathlib.Nat.{div-le_of_le-mul, mul-le-mul_left}
use native.Mathlib.Omega.{arith}
use lib.Dec.{eqb}
use lib.ListN.{get_or}
use Rattle.rules.specs.Limits.{greatest_rate, basis_points, flat}
use Rattle.rules.specs.Terms.{tier_parameters, yield_rate, capped}
use Rattle.rules.proofs.Tests.{cases}
use Rattle.rules.proofs.Tiers.{tier-range}

pub rate-most : (flat_rate pool : ℕ) → flat_rate ≤ greatest_rate → yield_rate flat_rate pool ≤ greatest_rate
rate-most flat_rate pool h = cases (eqb pool flat) flat_rate (get_or tier_parameters pool (0, 0)).0 (λ (n : ℕ). n ≤ greatest_rate) (λ e. h) (λ e. (tier-range pool).apy)

pub capped-most : (pool amount : ℕ) → capped pool amount ≤ amount
capped-most pool amount =
    cases (eqb pool flat) amount (amount * (get_or tier_parameters pool (0, 0)).1 / basis_points) (λ (n : ℕ). n ≤ amount)
    (λ e. omega arith) (λ e. div-le_of_le-mul basis_points (omega (arith, mul-le-mul_left amount (tier-range pool).cap)))
