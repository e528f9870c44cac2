-- Laws of sums: of a list, and over rows as a loop adds them up.
use Rattle.std.proofs.Common.{◌≡◌, ℕ, zero, suc, ◌+◌, ◌*◌, ◌<◌, ◌≢◌, List, [], ◌∷◌, ◌++◌, length, get_or, set, ℤ, pos, ◌+ℤ◌, ◌-ℤ◌, refl, ap, ◌∙◌, add-one, arith}
use native.Mathlib.Decide.{ℕ_discrete}
use Rattle.whole.proofs.Linear.{whole, one}
use Rattle.whole.specs.Whole.{Within}
use Rattle.whole.specs.Sums.{sum_z, total}

-- ---- of a list

pub sum-append : (xs ys : List ℤ) → sum_z (xs ++ ys) ≡ sum_z xs +ℤ sum_z ys
unfolding sum_z
sum-append [] ys = omega (arith, whole)
sum-append (x ∷ xs) ys =
    let ih = sum-append xs ys in
    omega (arith, whole)

-- one element replaced
pub sum-set : (l : List ℤ) (i : ℕ) (v : ℤ) → i < length l → sum_z (set l i v) ≡ sum_z l +ℤ (v -ℤ get_or l i (pos 0))
unfolding sum_z
sum-set [] i v h = absurd (omega arith)
sum-set (x ∷ l) zero v h = omega (arith, whole)
sum-set (x ∷ l) (suc i) v h =
    let ih = sum-set l i v (omega arith) in
    let d = v -ℤ get_or l i (pos 0) in
    omega (arith, whole)

-- each of n elements within B: the sum within n * B
pub sum-within : (B : ℕ) (l : List ℤ) → ((i : ℕ) → i < length l → Within B (get_or l i (pos 0))) → Within (length l * B) (sum_z l)
unfolding sum_z
sum-within B [] h = omega arith
sum-within B (x ∷ l) h =
    let ih = sum-within B l (λ i k. h (suc i) (omega arith)) in
    omega (arith, whole, h zero (omega arith), one (x +ℤ sum_z l))

-- ---- of f 0, .., f (n − 1)

-- none yet, as a loop begins
pub total-none : (f : ℕ → ℤ) → total f 0 ≡ pos 0
unfolding total
total-none f = refl

-- one more, as a loop adds it
pub total-more : (f : ℕ → ℤ) (n : ℕ) → total f (n + 1) ≡ total f n +ℤ f n
unfolding total
total-more f n = rw add-one

-- each within B: the sum of n within n * B
pub total-within : (f : ℕ → ℤ) (B n : ℕ) → ((i : ℕ) → i < n → Within B (f i)) → Within (n * B) (total f n)
unfolding total
total-within f B zero h = omega arith
total-within f B (suc n) h =
    let ih = total-within f B n (λ i k. h i (omega arith)) in
    omega (arith, whole, h n (omega arith), one (total f n +ℤ f n))

-- the same numbers, the same sum
pub total-same : (f g : ℕ → ℤ) (n : ℕ) → ((i : ℕ) → i < n → f i ≡ g i) → total f n ≡ total g n
unfolding total
total-same f g zero h = refl
total-same f g (suc n) h =
    let ih = total-same f g n (λ i k. h i (omega arith)) in
    let e = h n (omega arith) in
    cc

-- one of the numbers replaced
pub total-set : (f g : ℕ → ℤ) (r n : ℕ) → r < n → ((i : ℕ) → i < n → i ≢ r → g i ≡ f i) → total g n ≡ total f n +ℤ (g r -ℤ f r)
unfolding total
total-set f g r zero p h = absurd (omega arith)
total-set f g r (suc n) p h = go (ℕ_discrete r n) (λ q. total-set f g r n q (λ i k m. h i (omega arith) m))
  where
    go : Dec (r ≡ n) → (r < n → total g n ≡ total f n +ℤ (g r -ℤ f r)) → total g n +ℤ g n ≡ total f n +ℤ f n +ℤ (g r -ℤ f r)
    go (yes e) rest =
        let same = total-same g f n (λ i k. h i (omega arith) (omega arith)) in
        let eg = ap g e in
        let ef = ap f e in
        omega (arith, whole)
    go (no ne) rest =
        let ih = rest (omega arith) in
        let same = h n (omega arith) (omega arith) in
        omega (arith, whole)

-- the first taken off
pub total-front : (f : ℕ → ℤ) (n : ℕ) → total f (suc n) ≡ f 0 +ℤ total (λ i. f (suc i)) n
unfolding total
total-front f zero = omega (arith, whole)
total-front f (suc n) =
    let ih = total-front f n in
    let t = total (λ i. f (suc i)) n in
    omega (arith, whole)

-- a list's sum is the total of its elements
pub total-list : (l : List ℤ) → total (λ i. get_or l i (pos 0)) (length l) ≡ sum_z l
unfolding total sum_z
total-list [] = refl
total-list (x ∷ l) = total-front (λ i. get_or (x ∷ l) i (pos 0)) (length l) ∙ ap (λ (z : ℤ). x +ℤ z) (total-list l)
