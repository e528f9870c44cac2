-- The reductions of a loss, whatever the stakes are: as many as there are sharers, and together the loss.
use mathlib.Core.Path.{◌≡◌, refl, ap}
use mathlib.Core.List.{List, [], ◌∷◌}
use Prim.Native.Nat.{ℕ, suc}
use native.Mathlib.Omega.{arith}
use lib.IntN.{ℤ, pos, ◌-ℤ◌}
use lib.ListN.{length}
use Rattle.whole.specs.Sums.{sum_z}
use Rattle.whole.proofs.Linear.{whole, sum, dif}
use Rattle.rules.specs.Sharing.{cut_of, reductions}

pub cuts-length : (l t : ℕ) (r : ℤ) (ss : List ℤ) → length (reductions l t r ss) ≡ length ss
unfolding reductions
cuts-length l t r [] = refl
cuts-length l t r (s ∷ []) = refl
cuts-length l t r (s ∷ u ∷ more) = ap suc (cuts-length l t (r -ℤ cut_of l t r s) (u ∷ more))

pub cuts-sum : (l t : ℕ) (r s : ℤ) (more : List ℤ) → sum_z (reductions l t r (s ∷ more)) ≡ r
unfolding reductions sum_z
cuts-sum l t r s [] = omega (arith, whole, sum r (pos 0))
cuts-sum l t r s (u ∷ more) =
    let m = cut_of l t r s in
    let ih = cuts-sum l t (r -ℤ m) u more in
    let x = sum_z (reductions l t (r -ℤ m) (u ∷ more)) in
    omega (arith, whole, ih, dif r m, sum m x)
