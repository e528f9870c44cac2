-- Sums of signed numbers: of a list, and of f 0, .., f (n − 1), which is what a loop over rows adds up.
use Rattle.std.specs.Prelude.{ℕ, zero, suc, List, [], ◌∷◌, ℤ, pos, ◌+ℤ◌}

unfoldable pub sum_z : List ℤ → ℤ
sum_z [] = pos 0
sum_z (x ∷ xs) = x +ℤ sum_z xs

unfoldable pub total : (ℕ → ℤ) → ℕ → ℤ
total f zero = pos 0
total f (suc n) = total f n +ℤ f n
