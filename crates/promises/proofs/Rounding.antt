-- Shares rounded down leave a rest that is at least the last share rounded down, and less than one unit for each share above it.
use mathlib.Core.Path.{◌≡◌, refl, ◌∙◌, ap, ap₂}
use mathlib.Core.List.{List, [], ◌∷◌, ◌++◌, map}
use Prim.Native.Nat.{ℕ, ◌+◌, ◌-◌, ◌*◌, ◌/◌, ◌≤◌, ◌<◌}
use native.Mathlib.Nat.{div-mul-le_self, lt-div-mul-add, le_of_mul-le-mul_right, lt_of_mul-lt-mul_right}
use native.Mathlib.Omega.{arith}
use lib.IntN.{ℤ, pos, ◌-ℤ◌}
use lib.ListN.{length, length-append}
use Rattle.whole.specs.Whole.{min_z}
use Rattle.whole.specs.Shares.{share}
use Rattle.whole.proofs.Linear.{whole, lesser-is}
use Rattle.rules.specs.Sharing.{cut_of, reductions}
use Rattle.promises.specs.Shares.{sum_n}

-- a stake's exact share of a loss, rounded down, and what is left for the last
abbrev pub part : ℕ → ℕ → ℕ → ℕ
part loss balance stake = stake * loss / balance

abbrev pub rest_of : ℕ → ℕ → List ℕ → ℕ
rest_of loss balance before = loss - sum_n (map (part loss balance) before)

-- `before` are the stakes of all sharers but the last
pub record Sentence (loss balance : ℕ) (before : List ℕ) (last : ℕ) (cuts : List ℤ) : Type 0 where
  pub each : cuts ≡ map pos (map (part loss balance) before ++ (rest_of loss balance before ∷ []))
  pub together : sum_n (map (part loss balance) before) + rest_of loss balance before ≡ loss
  pub least : part loss balance last ≤ rest_of loss balance before
  pub most : rest_of loss balance before ≤ part loss balance last + length before

-- ---- rounding: the part shares together are at most the exact whole, and less than one unit each below it

floor-low : (l t : ℕ) (ns : List ℕ) → sum_n (map (part l t) ns) * t ≤ sum_n ns * l
floor-low l t [] = omega arith
floor-low l t (n ∷ ns) = omega (arith, floor-low l t ns, div-mul-le_self (n * l) t)

floor-high : (l t : ℕ) → 0 < t → (ns : List ℕ) → sum_n ns * l + length ns ≤ (sum_n (map (part l t) ns) + length ns) * t
floor-high l t h [] = omega arith
floor-high l t h (n ∷ ns) = omega (arith, floor-high l t h ns, lt-div-mul-add {a = n * l} {b = t} h)

map_snoc : (f : ℕ → ℕ) (ns : List ℕ) (z : ℕ) → sum_n (map f (ns ++ (z ∷ []))) ≡ sum_n (map f ns) + f z
map_snoc f [] z = omega arith
map_snoc f (n ∷ ns) z = omega (arith, map_snoc f ns z)

-- ---- the walk

-- one that is not the last
next : (l t : ℕ) (r s : ℤ) (xs : List ℕ) (z : ℕ) → reductions l t r (s ∷ map pos (xs ++ (z ∷ []))) ≡ min_z (share s l t) r ∷ reductions l t (r -ℤ min_z (share s l t) r) (map pos (xs ++ (z ∷ [])))
unfolding reductions cut_of
next l t r s [] z = refl
next l t r s (x ∷ xs) z = refl

min-left : (a b : ℕ) → a ≤ b → min_z (pos a) (pos b) ≡ pos a
min-left a b h = omega (arith, whole, lesser-is (pos a) (pos b))

minus : (a b : ℕ) → b ≤ a → pos a -ℤ pos b ≡ pos (a - b)
minus a b h = omega (arith, whole)

walk : (l t : ℕ) (xs : List ℕ) (z r : ℕ) → sum_n (map (part l t) xs) ≤ r → reductions l t (pos r) (map pos (xs ++ (z ∷ []))) ≡ map pos (map (part l t) xs ++ ((r - sum_n (map (part l t) xs)) ∷ []))
unfolding reductions cut_of
walk l t [] z r h = ap (λ (n : ℕ). pos n ∷ []) (omega arith)
walk l t (x ∷ xs) z r h =
    let m = min-left (part l t x) r (omega arith) in
    let e : pos r -ℤ min_z (share (pos x) l t) (pos r) ≡ pos (r - part l t x) = ap (λ (k : ℤ). pos r -ℤ k) m ∙ minus r (part l t x) (omega arith) in
    let f : r - part l t x - sum_n (map (part l t) xs) ≡ r - (part l t x + sum_n (map (part l t) xs)) = omega arith in
    next l t (pos r) (pos x) xs z
    ∙ ap₂ {C = List ℤ} (λ (k : ℤ) (ks : List ℤ). k ∷ ks) m (ap (λ (k : ℤ). reductions l t k (map pos (xs ++ (z ∷ [])))) e ∙ walk l t xs z (r - part l t x) (omega arith) ∙ ap (λ (k : ℕ). map pos (map (part l t) xs ++ (k ∷ []))) f)

-- ---- the sentence

pub sentence : (loss : ℕ) (before : List ℕ) (last : ℕ) → (let balance = sum_n (before ++ (last ∷ [])) in 0 < balance → loss ≤ balance → Sentence loss balance before last (reductions loss balance (pos loss) (map pos (before ++ (last ∷ [])))))
sentence loss before last h k =
    let t = sum_n (before ++ (last ∷ [])) in
    let low : sum_n (map (part loss t) (before ++ (last ∷ []))) ≤ loss = le_of_mul-le-mul_right {k = t} (omega (arith, floor-low loss t (before ++ (last ∷ [])))) h in
    let high : loss < sum_n (map (part loss t) (before ++ (last ∷ []))) + length (before ++ (last ∷ [])) = lt_of_mul-lt-mul_right t (omega (arith, floor-high loss t h (before ++ (last ∷ [])), length-append before (last ∷ []))) in
    let a = map_snoc (part loss t) before last in
    let b = length-append before (last ∷ []) in
    record {
      each = walk loss t before last loss (omega arith);
      together = omega arith;
      least = omega arith;
      most = omega arith;
    }
