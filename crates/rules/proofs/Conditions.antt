-- Tests: when two are one, and several in a row.
use mathlib.Core.Path.{◌≡◌, refl, sym, ◌∙◌}
use mathlib.Core.Bool.{Bool, true, false, ◌&&◌}
use mathlib.Core.List.{List, [], ◌∷◌}
use Rattle.rules.specs.Table.{each, all}

pub bool_same : (a b : Bool) → (a ≡ true → b ≡ true) → (b ≡ true → a ≡ true) → a ≡ b
bool_same true b f g = sym (f refl)
bool_same false true f g = g refl
bool_same false false f g = refl

-- a test that leads to nothing fails
pub refuted : (a : Bool) → (a ≡ true → ⊥) → false ≡ a
refuted true f = absurd (f refl)
refuted false f = refl

-- tests in a row, as the code asks them with no branch
abbrev pub joined : Bool → List Bool → Bool
joined a [] = a
joined a (b ∷ tests) = joined (a && b) tests

pub all-joined : (a : Bool) (tests : List Bool) → joined a tests ≡ all (a ∷ tests)
unfolding each
all-joined true [] = refl
all-joined false [] = refl
all-joined a (b ∷ tests) = all-joined (a && b) tests ∙ first a
  where
    first : (a : Bool) → all ((a && b) ∷ tests) ≡ all (a ∷ b ∷ tests)
    first true = refl
    first false = refl

-- two tests before others that are already joined
pub all-last : (a b : Bool) (tests : List Bool) → ((a && b) && all tests) ≡ all (a ∷ b ∷ tests)
unfolding each
all-last true true tests = refl
all-last true false tests = refl
all-last false b tests = refl
