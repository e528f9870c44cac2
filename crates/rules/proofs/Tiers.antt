-- The table of three pairs: read as the rules' list, and its range, proved once by a test over the whole table.
use mathlib.Core.Bool.{Bool, true, false, cond, true≢false}
use mathlib.Core.List.{List, [], ◌∷◌, map}
use mathlib.Core.Path.{◌≡◌, refl, sym}
use Prim.Native.Nat.{ℕ, zero, suc, ◌≤◌, zero-le}
use lib.Dec.{leb}
use lib.ListN.{get_or}
use borrow.Author.Tests.{leb-true}
use Rattle.rules.specs.Limits.{greatest_rate, basis_points}
use Rattle.rules.specs.Terms.{tier_parameters}

-- an entry read from the table is the table's entry read
pub read_at : {A B : Type 0} (f : A → B) (table : List A) (i : ℕ) (none : A) → f (get_or table i none) ≡ get_or (map f table) i (f none)
read_at f [] i none = refl
read_at f (x ∷ table) zero none = refl
read_at f (x ∷ table) (suc i) none = read_at f table i none

-- yields and caps within their limits
pub record InRange (terms : ℕ × ℕ) : Type 0 where
  pub apy : terms.0 ≤ greatest_rate
  pub cap : terms.1 ≤ basis_points

range-test : List (ℕ × ℕ) → Bool
range-test [] = true
range-test (t ∷ table) = cond (leb t.0 greatest_rate) (cond (leb t.1 basis_points) (range-test table) false) false

in-range : (table : List (ℕ × ℕ)) → range-test table ≡ true → (i : ℕ) → InRange (get_or table i (0, 0))
unfolding range-test
in-range [] e i = record { apy = zero-le; cap = zero-le }
in-range (t ∷ table) e i = go (leb t.0 greatest_rate) (leb t.1 basis_points) refl refl e (in-range table) i
  where
    go : (a b : Bool) → leb t.0 greatest_rate ≡ a → leb t.1 basis_points ≡ b → cond a (cond b (range-test table) false) false ≡ true
        → (range-test table ≡ true → (i : ℕ) → InRange (get_or table i (0, 0))) → (i : ℕ) → InRange (get_or (t ∷ table) i (0, 0))
    go true true p q e rest zero = record { apy = leb-true _ _ p; cap = leb-true _ _ q }
    go true true p q e rest (suc i) = rest e i
    go true false p q e rest i = absurd (true≢false (sym e))
    go false b p q e rest i = absurd (true≢false (sym e))

pub tier-range : (tier : ℕ) → InRange (get_or tier_parameters tier (0, 0))
unfolding range-test
tier-range = in-range tier_parameters refl
