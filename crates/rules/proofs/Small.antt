-- How little a loss does: the reductions never run ahead of it, and a stake only shrinks.
use mathlib.Core.List.{List, [], ◌∷◌}
use Prim.Native.Nat.{ℕ, ◌≤◌}
use native.Mathlib.Omega.{arith}
use lib.IntN.{ℤ, pos, nat_abs, ◌-ℤ◌}
use lib.Signed.{◌≤ℤ◌}
use Rattle.whole.specs.Shares.{share}
use Rattle.whole.proofs.Linear.{whole, dif, abs, one, lesser-is}
use Rattle.whole.proofs.Shares.{share-le}
use Rattle.rules.specs.Sharing.{cut_of, reductions}

-- ---- the reductions so far never exceed the loss

abbrev pub Short : ℤ → List ℤ → Type 0
Short rest [] = Unit {0}
Short rest (c ∷ cuts) = (c ≤ℤ rest) × Short (rest -ℤ c) cuts

pub never-exceeds : (loss balance : ℕ) (rest : ℤ) (ss : List ℤ) → Short rest (reductions loss balance rest ss)
unfolding reductions cut_of
never-exceeds loss balance rest [] = tt
never-exceeds loss balance rest (s ∷ []) = (omega (arith, whole), tt)
never-exceeds loss balance rest (s ∷ u ∷ more) =
    (omega (arith, whole, lesser-is (share s loss balance) rest), never-exceeds loss balance (rest -ℤ cut_of loss balance rest s) (u ∷ more))

-- ---- a sharer that is not the last never grows in size, and the last only falls

abbrev pub Shrinks : List ℤ → List ℤ → Type 0
Shrinks [] cuts = Unit {0}
Shrinks (s ∷ ss) [] = Unit {0}
Shrinks (s ∷ []) (c ∷ cuts) = (s -ℤ c) ≤ℤ s
Shrinks (s ∷ u ∷ more) (c ∷ cuts) = (nat_abs (s -ℤ c) ≤ nat_abs s) × Shrinks (u ∷ more) cuts

pub shrinks : (loss balance : ℕ) → loss ≤ balance → (rest : ℤ) → pos 0 ≤ℤ rest → (ss : List ℤ) → Shrinks ss (reductions loss balance rest ss)
unfolding reductions cut_of
shrinks loss balance h rest n [] = tt
shrinks loss balance h rest n (s ∷ []) = omega (arith, whole, n, dif s rest)
shrinks loss balance h rest n (s ∷ u ∷ more) =
    let m = cut_of loss balance rest s in
    let e = lesser-is (share s loss balance) rest in
    let f = share-le s loss balance h in (
      omega (arith, whole, n, e, f, dif s m, abs s, abs (s -ℤ m), one (share s loss balance), one m, one rest),
      shrinks loss balance h (rest -ℤ m) (omega (arith, whole, e, dif rest m)) (u ∷ more),
    )
