-- Two lists of the same length, their elements side by side: what holds of each pair at its place holds of the pair at any place, beyond the
-- lists that of their defaults.
use mathlib.Core.List.{List, [], ◌∷◌}
use Prim.Native.Nat.{ℕ, zero, suc}
use lib.ListN.{get_or}

abbrev pub Side : {A B : Type 0} → (ℕ → A → B → Type 0) → List A → List B → Type 0
Side P [] [] = Unit {0}
Side P [] (y ∷ ys) = ⊥
Side P (x ∷ xs) [] = ⊥
Side P (x ∷ xs) (y ∷ ys) = P 0 x y × Side (λ k. P (suc k)) xs ys

pub side-at : {A B : Type 0} (P : ℕ → A → B → Type 0) (x : A) (y : B) → ((k : ℕ) → P k x y) → (xs : List A) (ys : List B) → Side P xs ys → (n : ℕ) → P n (get_or xs n x) (get_or ys n y)
side-at P x y p [] [] s n = p n
side-at P x y p [] (b ∷ ys) s n = absurd s
side-at P x y p (a ∷ xs) [] s n = absurd s
side-at P x y p (a ∷ xs) (b ∷ ys) s zero = s.0
side-at P x y p (a ∷ xs) (b ∷ ys) s (suc n) = side-at (λ k. P (suc k)) x y (λ k. p (suc k)) xs ys s.1 n
