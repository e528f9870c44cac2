-- Keys compared as numbers, and the place of a key in a sorted table.
use Rattle.std.proofs.Common.{Result, Ok, Err}
use mathlib.Core.Path.{◌≡◌, refl, sym, ap, ◌∙◌, subst, subst⁻¹}
use mathlib.Core.Bool.{Bool, true, false, ◌&&◌}
use mathlib.Core.Logic.{◌⊎◌, inl, inr, ⊎_elim, ◌↔◌}
use mathlib.Core.List.{List}
use Prim.Native.Nat.{ℕ, zero, suc, ◌+◌, ◌*◌, ◌^◌, ◌≤◌, ◌<◌}
use native.Mathlib.Nat.{mul-le-mul_right, eq-or-lt_of_le}
use native.Mathlib.Omega.{arith}
use lib.Dec.{ltb, eqb}
use borrow.Author.Tests.{lt-ltb, le-ltb, eq-eqb, ne_eqb, ltb-true, ltb-false, eqb-true, eqb-false}
use Rattle.rows.specs.Rows.{key_of, key_at, Sorted}
use Rattle.rows.specs.Lookup.{place_of}

-- a row below row n, with all its words, lies within the words of the first n rows: the one fact on products that a read of a row needs
pub row_in : (w : ℕ) {i n l : ℕ} → i < n → n * w ≤ l → i * w + w ≤ l
row_in w {i} {n} h l = omega (arith, mul-le-mul_right {m = suc i} {n = n} w h)

-- at most is equal or below; the numbers are explicit, so that `omega` can prove the premise
pub le-cases : (m n : ℕ) → m ≤ n → (m ≡ n) ⊎ (m < n)
le-cases m n h = eq-or-lt_of_le h

pub lt-or-le : (m n : ℕ) → (m < n) ⊎ (n ≤ m)
lt-or-le m n = go (ltb m n) refl
  where
    go : (t : Bool) → ltb m n ≡ t → (m < n) ⊎ (n ≤ m)
    go true e = inl (ltb-true m n e)
    go false e = inr (ltb-false m n e)

pub same_or_not : (m n : ℕ) → (m ≡ n) ⊎ (m ≡ n → ⊥)
same_or_not m n = ⊎_elim (λ l. inr (λ e. omega arith)) (λ l. ⊎_elim (λ e. inl (sym e)) (λ q. inr (λ e. omega arith)) (le-cases n m l)) (lt-or-le m n)

pub false-true : false ≡ true → ⊥
false-true e = let z : ◌≡◌ {A = ℕ} 0 1 = cc in omega arith

-- two tests agree when their facts do
ltb-same : (a b c d : ℕ) → (a < b → c < d) → (b ≤ a → d ≤ c) → ltb a b ≡ ltb c d
ltb-same a b c d f g = go (ltb a b) refl
  where
    go : (t : Bool) → ltb a b ≡ t → ltb a b ≡ ltb c d
    go true e = e ∙ sym (lt-ltb c d (f (ltb-true a b e)))
    go false e = e ∙ sym (le-ltb c d (g (ltb-false a b e)))

-- where the pools are equal the numbers decide
pub key-same : (p n q m : ℕ) → p ≡ q → ltb n m ≡ ltb (key_of p n) (key_of q m)
key-same p n q m e = ltb-same n m (key_of p n) (key_of q m) (λ h. omega arith) (λ h. omega arith)

-- where they differ the pools do
pub key-diff : (p n q m : ℕ) → (p ≡ q → ⊥) → n < 2 ^ 64 → m < 2 ^ 64 → ltb p q ≡ ltb (key_of p n) (key_of q m)
key-diff p n q m e hn hm = ltb-same p q (key_of p n) (key_of q m) (λ h. omega arith) (λ h. omega arith)

-- the order of keys is the order of the pairs, and a key is that of one pair: what the definition `key_of` is to mean
pub key-order : (p n q m : ℕ) → n < 2 ^ 64 → m < 2 ^ 64 → key_of p n < key_of q m ↔ (p < q) ⊎ ((p ≡ q) × (n < m))
key-order p n q m hn hm = (
  (λ h. ⊎_elim (λ l. inl l) (λ l. ⊎_elim (λ e. inr (sym e, omega arith)) (λ r. absurd (omega arith)) (le-cases q p l)) (lt-or-le p q)),
  ⊎_elim (λ l. omega arith) (λ e. omega arith),
)

pub key_one : (p n q m : ℕ) → n < 2 ^ 64 → m < 2 ^ 64 → key_of p n ≡ key_of q m → (p ≡ q) × (n ≡ m)
key_one p n q m hn hm e =
    let f : p ≡ q = omega arith in
    (f, omega arith)

-- two keys are one where their parts are
pub key-same-test : (p n q m : ℕ) → n < 2 ^ 64 → m < 2 ^ 64 → (eqb p q && eqb n m) ≡ eqb (key_of p n) (key_of q m)
key-same-test p n q m hn hm = go (eqb p q) (eqb n m) refl refl
  where
    go : (a b : Bool) → eqb p q ≡ a → eqb n m ≡ b → (a && b) ≡ eqb (key_of p n) (key_of q m)
    go true true e f = sym (eq-eqb (key_of p n) (key_of q m) (omega (arith, eqb-true p q e, eqb-true n m f)))
    go true false e f = sym (ne_eqb (key_of p n) (key_of q m) (λ z. eqb-false n m f (key_one p n q m hn hm z).1))
    go false b e f = sym (ne_eqb (key_of p n) (key_of q m) (λ z. eqb-false p q e (key_one p n q m hn hm z).0))

-- lo and hi bracket the place of k among the first n rows
pub record Bracket (s : List ℕ) (w n k lo hi : ℕ) : Type 0 where
  pub lo-le : lo ≤ hi
  pub hi-le : hi ≤ n
  pub below : (j : ℕ) → j < lo → key_at s w j < k
  pub above : (j : ℕ) → hi ≤ j → j < n → k < key_at s w j

-- all the rows bracket any place
pub bracket-start : {s : List ℕ} {w n k : ℕ} → Bracket s w n k 0 n
bracket-start = record { lo-le = omega arith; hi-le = omega arith; below = λ j l. absurd (omega arith); above = λ j l q. absurd (omega arith) }

module _ (s : List ℕ) (w k : ℕ) where
  place-low : (n : ℕ) → key_at s w n < k → place_of s w (suc n) k ≡ Err (suc n)
  place-low n h = simp (ne_eqb (key_at s w n) k (λ e. omega arith), lt-ltb (key_at s w n) k h)

  place-high : (n : ℕ) → k < key_at s w n → place_of s w (suc n) k ≡ place_of s w n k
  place-high n h = simp (ne_eqb (key_at s w n) k (λ e. omega arith), le-ltb (key_at s w n) k (omega arith))

  place-eq : (n : ℕ) → key_at s w n ≡ k → place_of s w (suc n) k ≡ Ok n
  place-eq n h = simp (eq-eqb (key_at s w n) k h)

  -- where lo and hi meet is the gap
  pub place-gap : (n i : ℕ) → Bracket s w n k i i → place_of s w n k ≡ Err i
  place-gap zero i b = ap Err (omega (arith, b.hi-le))
  place-gap (suc n) i b = ⊎_elim (λ e. place-low n (b.below n (omega arith)) ∙ ap Err (omega arith)) (λ l. place-high n (b.above n (omega arith) (omega arith)) ∙ place-gap n i (record { lo-le = omega arith; hi-le = omega arith; below = b.below; above = λ j p q. b.above j p (omega arith) })) (eq-or-lt_of_le b.hi-le)

  -- a row with the key, below rows with larger keys, is the place
  pub place_at : (n i : ℕ) → i < n → key_at s w i ≡ k → ((j : ℕ) → i < j → j < n → k < key_at s w j) → place_of s w n k ≡ Ok i
  place_at zero i h e a = absurd (omega arith)
  place_at (suc n) i h e a = ⊎_elim (λ q. place-eq n (ap (key_at s w) (omega arith) ∙ e) ∙ ap Ok (omega arith)) (λ l. place-high n (a n (omega arith) (omega arith)) ∙ place_at n i (omega arith) e (λ j p q. a j p (omega arith))) (eq-or-lt_of_le h)

-- what a place says
abbrev pub Placed : List ℕ → ℕ → ℕ → ℕ → Result ℕ ℕ → Type 0
Placed s w n k (Ok i) = (i < n) × (key_at s w i ≡ k)
Placed s w n k (Err i) = Bracket s w n k i i

-- the place of a key in a sorted table says where its row is, or that there is none and where it would be: what a caller of `place_of` cites
pub placed : (s : List ℕ) (w n k : ℕ) → Sorted s w n → Placed s w n k (place_of s w n k)
placed s w zero k o = bracket-start
placed s w (suc n) k o = ⊎_elim low (λ l. ⊎_elim (λ e. same (sym e)) (high (placed s w n k (λ a b l q. o a b l (omega arith)))) (le-cases k (key_at s w n) l)) (lt-or-le (key_at s w n) k)
  where
    low : key_at s w n < k → Placed s w (suc n) k (place_of s w (suc n) k)
    low h = subst⁻¹ (Placed s w (suc n) k) (place-low s w k n h) (record {
      lo-le = omega arith;
      hi-le = omega arith;
      below = λ j l. ⊎_elim (λ e. omega (arith, ap (key_at s w) e)) (λ q. omega (arith, o j n q (omega arith))) (le-cases j n (omega arith));
      above = λ j l q. absurd (omega arith);
    })

    same : key_at s w n ≡ k → Placed s w (suc n) k (place_of s w (suc n) k)
    same h = subst⁻¹ (Placed s w (suc n) k) (place-eq s w k n h) (omega arith, h)

    more : k < key_at s w n → (p : Result ℕ ℕ) → Placed s w n k p → Placed s w (suc n) k p
    more h (Ok i) q = (omega (arith, q.0), q.1)
    more h (Err i) q = record {
      lo-le = omega arith;
      hi-le = omega (arith, q.hi-le);
      below = q.below;
      above = λ j l r. ⊎_elim (λ e. omega (arith, ap (key_at s w) e)) (λ t. q.above j l t) (le-cases j n (omega arith));
    }

    high : Placed s w n k (place_of s w n k) → k < key_at s w n → Placed s w (suc n) k (place_of s w (suc n) k)
    high r h = subst⁻¹ (Placed s w (suc n) k) (place-high s w k n h) (more h (place_of s w n k) r)

-- the two cases by themselves, as an arm of a match on what `place_of` returned has them
pub found_at : (s : List ℕ) (w n k i : ℕ) → Sorted s w n → place_of s w n k ≡ Ok i → (i < n) × (key_at s w i ≡ k)
found_at s w n k i o e = subst (Placed s w n k) e (placed s w n k o)

pub found-gap : (s : List ℕ) (w n k i : ℕ) → Sorted s w n → place_of s w n k ≡ Err i → Bracket s w n k i i
found-gap s w n k i o e = subst (Placed s w n k) e (placed s w n k o)
