-- Which rows a lookup reads, and W-213's statement. The turns that make the definition end drop out first (`halving`); what holds of every list of
-- rows read is then shown by one induction (`by-halves`).
use mathlib.Core.Path.{◌≡◌, refl, sym, ap, ap₂, ◌∙◌, subst, subst⁻¹}
use mathlib.Core.Bool.{Bool, true, false, cond}
use mathlib.Core.Logic.{⊎_elim, ◌≢◌}
use mathlib.Core.List.{List, [], ◌∷◌}
use Prim.Native.Nat.{ℕ, zero, suc, ◌+◌, ◌-◌, ◌*◌, ◌/◌, ◌^◌, ◌≤◌, ◌<◌}
use native.Mathlib.Nat.{pow-succ', zero-add}
use native.Mathlib.Omega.{arith}
use lib.Dec.{ltb, eqb}
use lib.ListN.{length, get_or}
use borrow.Author.Tests.{ltb-true}
use Rattle.rows.specs.Rows.{key_at, Sorted}
use Rattle.rows.specs.Lookup.{place_of, read_in, read_from, rows_read, digits_in, digits}
use Rattle.rows.specs.LookupShown.{LookupShown, LookupFigures, numbered}
use Rattle.rows.proofs.Order.{le-cases}
use Rattle.rows.proofs.Halves.{Span, half_of, Holds, half-rows, holds-start, holds-half, holds_at, holds-gap}

-- ---- binary digits

digits-none : (t n : ℕ) → n ≡ 0 → digits_in t n ≡ 0
unfolding digits_in
digits-none zero n e = refl
digits-none (suc t) zero e = refl
digits-none (suc t) (suc m) e = absurd (omega arith)

digits-some : (t n : ℕ) → 0 < n → digits_in (suc t) n ≡ suc (digits_in t (n / 2))
unfolding digits_in
digits-some t zero h = absurd (omega arith)
digits-some t (suc m) h = refl

-- more turns than n change nothing
digits-enough : (t u n : ℕ) → n ≤ t → n ≤ u → digits_in t n ≡ digits_in u n
digits-enough zero u n p q = digits-none zero n (omega arith) ∙ sym (digits-none u n (omega arith))
digits-enough (suc t) zero n p q = digits-none (suc t) n (omega arith) ∙ sym (digits-none zero n (omega arith))
digits-enough (suc t) (suc u) n p q =
    ⊎_elim
    (λ e. digits-none (suc t) n (sym e) ∙ sym (digits-none (suc u) n (sym e)))
    (λ l. digits-some t n l ∙ ap suc (digits-enough t u (n / 2) (omega arith) (omega arith)) ∙ sym (digits-some u n l))
    (le-cases 0 n (omega arith))

digits-half : (n : ℕ) → 0 < n → digits n ≡ suc (digits (n / 2))
digits-half zero h = absurd (omega arith)
digits-half (suc m) h = digits-some m (suc m) h ∙ ap suc (digits-enough m (suc m / 2) (suc m / 2) (omega arith) (omega arith))

digits-grow : (m n : ℕ) → m ≤ n → digits m ≤ digits n
digits-grow m n h = go n m n h (omega arith)
  where
    go : (t m n : ℕ) → m ≤ n → n ≤ t → digits m ≤ digits n
    go zero m n h l = omega (arith, digits-none m m (omega arith))
    go (suc t) m n h l =
        ⊎_elim
        (λ e. omega (arith, digits-none m m (sym e)))
        (λ p. omega (arith, digits-half m p, digits-half n (omega arith), go t (m / 2) (n / 2) (omega arith) (omega arith)))
        (le-cases 0 m (omega arith))

binary : (n : ℕ) → 0 < n → (n < 2 ^ digits n) × (2 ^ digits n ≤ 2 * n)
binary n h = go n n h (omega arith)
  where
    go : (t n : ℕ) → 0 < n → n ≤ t → (n < 2 ^ digits n) × (2 ^ digits n ≤ 2 * n)
    go zero n h l = absurd (omega arith)
    go (suc t) n h l =
        let d = digits (n / 2) in
        let twice : 2 ^ digits n ≡ 2 * 2 ^ d = ap (λ (x : ℕ). 2 ^ x) (digits-half n h) ∙ pow-succ' 2 d in
        ⊎_elim
        (λ e.
        let one : 2 ^ d ≡ 1 = ap (λ (x : ℕ). 2 ^ x) (digits-none (n / 2) (n / 2) (sym e)) in
        (omega (arith, twice, one, e), omega (arith, twice, one, e)))
        (λ p.
        let i = go t (n / 2) p (omega arith) in
        (omega (arith, twice, i.0), omega (arith, twice, i.1)))
        (le-cases 0 (n / 2) (omega arith))

-- ---- the halving

module _ (s : List ℕ) (w k : ℕ) where
  -- whether the place is after the row read
  abbrev after : ℕ → Bool
  after m = ltb (key_at s w m) k

  read_none : (t low n : ℕ) → n ≡ 0 → read_in t s w k low n ≡ []
  unfolding read_in
  read_none zero low n e = refl
  read_none (suc t) low zero e = refl
  read_none (suc t) low (suc m) e = absurd (omega arith)

  read_some : (t low n : ℕ) → 0 < n → let m = low + n / 2 in read_in (suc t) s w k low n ≡ (m ∷ cond (after m) (read_in t s w k (m + 1) (n - n / 2 - 1)) (read_in t s w k low (n / 2)))
  unfolding read_in
  read_some t low zero h = absurd (omega arith)
  read_some t low (suc r) h = ap (λ (l : List ℕ). (low + suc r / 2) ∷ l) (side (after (low + suc r / 2)))
    where
      side : (b : Bool) → let half = suc r / 2 in let m = low + half in
          read_in t s w k (cond b (m + 1) low) (cond b (r - half) half) ≡ cond b (read_in t s w k (m + 1) (suc r - half - 1)) (read_in t s w k low half)
      side true = let e : r - suc r / 2 ≡ suc r - suc r / 2 - 1 = omega arith in ap (read_in t s w k (low + suc r / 2 + 1)) e
      side false = refl

  -- more turns than rows change nothing
  read-enough : (t u low n : ℕ) → n ≤ t → n ≤ u → read_in t s w k low n ≡ read_in u s w k low n
  read-enough zero u low n p q = read_none zero low n (omega arith) ∙ sym (read_none u low n (omega arith))
  read-enough (suc t) zero low n p q = read_none (suc t) low n (omega arith) ∙ sym (read_none zero low n (omega arith))
  read-enough (suc t) (suc u) low n p q =
      let m = low + n / 2 in
      ⊎_elim
      (λ e. read_none (suc t) low n (sym e) ∙ sym (read_none (suc u) low n (sym e)))
      (λ l.
      read_some t low n l
      ∙ ap₂ (λ (a b : List ℕ). m ∷ cond (after m) a b) (read-enough t u (m + 1) (n - n / 2 - 1) (omega arith) (omega arith)) (read-enough t u low (n / 2) (omega arith) (omega arith))
      ∙ sym (read_some u low n l))
      (le-cases 0 n (omega arith))

  pub halving : (low n : ℕ) → 0 < n → let m = low + n / 2 in read_from s w k low n ≡ (m ∷ cond (after m) (read_from s w k (m + 1) (n - n / 2 - 1)) (read_from s w k low (n / 2)))
  halving low zero h = absurd (omega arith)
  halving low (suc r) h =
      let m = low + suc r / 2 in
      let rest = suc r - suc r / 2 - 1 in
      read_some r low (suc r) h
      ∙ ap₂ (λ (a b : List ℕ). m ∷ cond (after m) a b) (read-enough r rest (m + 1) rest (omega arith) (omega arith)) (read-enough r (suc r / 2) low (suc r / 2) (omega arith) (omega arith))

  -- what holds of no rows, and of some where it holds of the half that is left, holds of every list of rows read
  module _ (P : ℕ → ℕ → List ℕ → Type 0)
      (start : (low : ℕ) → P low 0 [])
      (up : (low n : ℕ) (l : List ℕ) → 0 < n → after (low + n / 2) ≡ true → P (low + n / 2 + 1) (n - n / 2 - 1) l → P low n ((low + n / 2) ∷ l))
      (down : (low n : ℕ) (l : List ℕ) → 0 < n → after (low + n / 2) ≡ false → P low (n / 2) l → P low n ((low + n / 2) ∷ l)) where
    nothing : (t low n : ℕ) → n ≡ 0 → P low n (read_in t s w k low n)
    nothing t low n e = subst⁻¹ (P low n) (read_none t low n e) (subst⁻¹ (λ (x : ℕ). P low x []) e (start low))

    side : (t low n : ℕ) → 0 < n → let m = low + n / 2 in
        P (m + 1) (n - n / 2 - 1) (read_in t s w k (m + 1) (n - n / 2 - 1)) → P low (n / 2) (read_in t s w k low (n / 2))
        → (b : Bool) → after m ≡ b → P low n (m ∷ cond b (read_in t s w k (m + 1) (n - n / 2 - 1)) (read_in t s w k low (n / 2)))
    side t low n l u d true e = up low n _ l e u
    side t low n l u d false e = down low n _ l e d

    by-turns : (t low n : ℕ) → n ≤ t → P low n (read_in t s w k low n)
    by-turns zero low n h = nothing zero low n (omega arith)
    by-turns (suc t) low n h =
        let m = low + n / 2 in
        ⊎_elim (λ e. nothing (suc t) low n (sym e))
        (λ l. subst⁻¹ (P low n) (read_some t low n l) (side t low n l (by-turns t (m + 1) (n - n / 2 - 1) (omega arith)) (by-turns t low (n / 2) (omega arith)) (after m) refl))
        (le-cases 0 n (omega arith))

    pub by-halves : (low n : ℕ) → P low n (read_from s w k low n)
    by-halves low n = by-turns n low n (omega arith)

  -- ---- how many

  at_most : (low n : ℕ) → length (read_from s w k low n) ≤ digits n
  at_most =
      by-halves (λ (low n : ℕ) (l : List ℕ). length l ≤ digits n) (λ low. omega arith)
      (λ low n l h e i. omega (arith, digits-half n h, digits-grow (n - n / 2 - 1) (n / 2) (omega arith)))
      (λ low n l h e i. omega (arith, digits-half n h))

  -- where the place is in front of every row, no half is smaller than it may be
  exact : (low n : ℕ) → ((i : ℕ) → low ≤ i → i < low + n → k ≤ key_at s w i) → length (read_from s w k low n) ≡ digits n
  exact =
      by-halves (λ (low n : ℕ) (l : List ℕ). ((i : ℕ) → low ≤ i → i < low + n → k ≤ key_at s w i) → length l ≡ digits n) (λ low f. sym (digits-none 0 0 refl))
      (λ low n l h e i f. absurd (omega (arith, ltb-true (key_at s w (low + n / 2)) k e, f (low + n / 2) (omega arith) (omega arith))))
      (λ low n l h e i f. omega (arith, digits-half n h, i (λ j p q. f j p (omega arith))))

  -- ---- which

  -- all of them among the n rows from row `low` on, and no two the same
  abbrev Apart : ℕ → ℕ → List ℕ → Type 0
  Apart low n l = ((j : ℕ) → j < length l → (low ≤ get_or l j 0) × (get_or l j 0 < low + n)) × ((i j : ℕ) → i < j → j < length l → get_or l i 0 ≢ get_or l j 0)

  apart : (low n : ℕ) → Apart low n (read_from s w k low n)
  apart = by-halves Apart (λ low. (λ j h. absurd (omega arith), λ i j p h. absurd (omega arith))) (λ low n l h e a. (in-up low n l h a, once-up low n l a)) (λ low n l h e a. (in-down low n l h a, once-down low n l a))
    where
      in-up : (low n : ℕ) (l : List ℕ) → 0 < n → Apart (low + n / 2 + 1) (n - n / 2 - 1) l → (j : ℕ) → j < suc (length l) → let x = get_or ((low + n / 2) ∷ l) j 0 in (low ≤ x) × (x < low + n)
      in-up low n l h a zero q = (omega arith, omega arith)
      in-up low n l h a (suc j) q = let r = a.0 j (omega arith) in (omega (arith, r.0), omega (arith, r.1))

      in-down : (low n : ℕ) (l : List ℕ) → 0 < n → Apart low (n / 2) l → (j : ℕ) → j < suc (length l) → let x = get_or ((low + n / 2) ∷ l) j 0 in (low ≤ x) × (x < low + n)
      in-down low n l h a zero q = (omega arith, omega arith)
      in-down low n l h a (suc j) q = let r = a.0 j (omega arith) in (omega (arith, r.0), omega (arith, r.1))

      once-up : (low n : ℕ) (l : List ℕ) → Apart (low + n / 2 + 1) (n - n / 2 - 1) l → (i j : ℕ) → i < j → j < suc (length l) → get_or ((low + n / 2) ∷ l) i 0 ≢ get_or ((low + n / 2) ∷ l) j 0
      once-up low n l a i zero p q = absurd (omega arith)
      once-up low n l a zero (suc j) p q = λ z. omega (arith, z, (a.0 j (omega arith)).0)
      once-up low n l a (suc i) (suc j) p q = a.1 i j (omega arith) (omega arith)

      once-down : (low n : ℕ) (l : List ℕ) → Apart low (n / 2) l → (i j : ℕ) → i < j → j < suc (length l) → get_or ((low + n / 2) ∷ l) i 0 ≢ get_or ((low + n / 2) ∷ l) j 0
      once-down low n l a i zero p q = absurd (omega arith)
      once-down low n l a zero (suc j) p q = λ z. omega (arith, z, (a.0 j (omega arith)).1)
      once-down low n l a (suc i) (suc j) p q = a.1 i j (omega arith) (omega arith)

-- ---- a lookup under way

-- a span that holds the place of k, after some reads: with the rows still to be read in it they are all
pub record Reading (s : List ℕ) (w n k : ℕ) (at : Span) (reads : ℕ) : Type 0 where
  pub holds : Holds s w n k at
  pub counted : reads + length (read_from s w k at.low at.rows) ≡ length (rows_read s w n k)
  pub few : reads + at.rows ≤ n

module _ (s : List ℕ) (w n k : ℕ) where
  pub reading-start : Reading s w n k (record { low = 0; rows = n; found = false }) 0
  reading-start = record { holds = holds-start s w n k; counted = omega arith; few = omega arith }

  module _ (o : Sorted s w n) (at : Span) (reads : ℕ) (h : 0 < at.rows) (b : Reading s w n k at reads) where
    abbrev mid : ℕ
    mid = at.low + at.rows / 2

    one_more : (t f : Bool) → ltb (key_at s w mid) k ≡ t → let half = half_of at t f in reads + 1 + length (read_from s w k half.low half.rows) ≡ length (rows_read s w n k)
    one_more t f e = side t e (halving s w k at.low at.rows h ∙ ap (λ (x : Bool). mid ∷ cond x (read_from s w k (mid + 1) (at.rows - at.rows / 2 - 1)) (read_from s w k at.low (at.rows / 2))) e)
      where
        side : (t : Bool) → ltb (key_at s w mid) k ≡ t → read_from s w k at.low at.rows ≡ (mid ∷ cond t (read_from s w k (mid + 1) (at.rows - at.rows / 2 - 1)) (read_from s w k at.low (at.rows / 2)))
            → let half = half_of at t f in reads + 1 + length (read_from s w k half.low half.rows) ≡ length (rows_read s w n k)
        side true e r = omega (arith, b.counted, ap length r)
        side false e r = omega (arith, b.counted, ap length r)

    pub reading-half : Reading s w n k (half_of at (ltb (key_at s w mid) k) (eqb (key_at s w mid) k)) (reads + 1)
    reading-half = record {
      holds = holds-half s w n k o at mid refl h b.holds;
      counted = one_more (ltb (key_at s w mid) k) (eqb (key_at s w mid) k) refl;
      few = omega (arith, b.few, half-rows at (ltb (key_at s w mid) k) (eqb (key_at s w mid) k) h);
    }

  -- the same with the end of the span in place of its length, as the loop has it
  module _ (o : Sorted s w n) (low high reads : ℕ) (f : Bool) (h : low < high) (b : Reading s w n k (record { low = low; rows = high - low; found = f }) reads) where
    abbrev middle : ℕ
    middle = low + (high - low) / 2

    turn : Reading s w n k (half_of (record { low = low; rows = high - low; found = f }) (ltb (key_at s w middle) k) (eqb (key_at s w middle) k)) (reads + 1)
    turn = reading-half o (record { low = low; rows = high - low; found = f }) reads (omega arith) b

    pub reading-up : ltb (key_at s w middle) k ≡ true → Reading s w n k (record { low = middle + 1; rows = high - (middle + 1); found = f }) (reads + 1)
    reading-up e =
        let r : high - low - (high - low) / 2 - 1 ≡ high - (middle + 1) = omega arith in
        subst (λ (x : ℕ). Reading s w n k (record { low = middle + 1; rows = x; found = f }) (reads + 1)) r
        (subst (λ (t : Bool). Reading s w n k (half_of (record { low = low; rows = high - low; found = f }) t (eqb (key_at s w middle) k)) (reads + 1)) e turn)

    pub reading-down : (found : Bool) → ltb (key_at s w middle) k ≡ false → eqb (key_at s w middle) k ≡ found → Reading s w n k (record { low = low; rows = middle - low; found = found }) (reads + 1)
    reading-down found e g =
        let r : (high - low) / 2 ≡ middle - low = omega arith in
        subst (λ (x : ℕ). Reading s w n k (record { low = low; rows = x; found = found }) (reads + 1)) r
        (subst (λ (t : Bool). Reading s w n k (record { low = low; rows = (high - low) / 2; found = t }) (reads + 1)) g
        (subst (λ (t : Bool). Reading s w n k (half_of (record { low = low; rows = high - low; found = f }) t (eqb (key_at s w middle) k)) (reads + 1)) e turn))

  -- no row is in question: the count is whole
  pub reading-done : (at : Span) (reads : ℕ) → at.rows ≡ 0 → Reading s w n k at reads → reads ≡ length (rows_read s w n k)
  reading-done at reads z b = omega (arith, b.counted, ap length (read_none s w k at.rows at.low at.rows z))

-- ---- no other row

module _ (s t : List ℕ) (w n k : ℕ) (o : Sorted s w n) (q : Sorted t w n) where
  -- of the r rows from row `low` on, where both hold the place of k: the same keys in the rows of l make the same reads and the same place
  abbrev Alike : ℕ → ℕ → List ℕ → Type 0
  Alike low r l =
      (f : Bool) → Holds s w n k (record { low = low; rows = r; found = f }) → Holds t w n k (record { low = low; rows = r; found = f })
      → ((j : ℕ) → j < length l → key_at t w (get_or l j 0) ≡ key_at s w (get_or l j 0))
      → (read_from t w k low r ≡ l) × (place_of t w n k ≡ place_of s w n k)

  start : (low : ℕ) → Alike low 0 []
  unfolding read_in
  start low true a b g = (refl, sym (holds_at t w n k q _ refl b refl) ∙ holds_at s w n k o _ refl a refl)
  start low false a b g = (refl, sym (holds-gap t w n k q _ refl b refl) ∙ holds-gap s w n k o _ refl a refl)

  -- both halves once the middle row is read, with this table's tests
  module _ (low r : ℕ) (h : 0 < r) (f : Bool) (same : key_at t w (low + r / 2) ≡ key_at s w (low + r / 2)) (c : Bool) (e : ltb (key_at s w (low + r / 2)) k ≡ c) where
    abbrev m : ℕ
    m = low + r / 2

    abbrev span : Span
    span = record { low = low; rows = r; found = f }

    halved-s : Holds s w n k span → Holds s w n k (half_of span c (eqb (key_at s w m) k))
    halved-s a = subst (λ (b : Bool). Holds s w n k (half_of span b (eqb (key_at s w m) k))) e (holds-half s w n k o span m refl h a)

    halved-t : Holds t w n k span → Holds t w n k (half_of span c (eqb (key_at s w m) k))
    halved-t b =
        subst (λ (x : Bool). Holds t w n k (half_of span x (eqb (key_at s w m) k))) e
        (subst (λ (x : ℕ). Holds t w n k (half_of span (ltb x k) (eqb x k))) same (holds-half t w n k q span m refl h b))

    read-t : read_from t w k low r ≡ (m ∷ cond c (read_from t w k (m + 1) (r - r / 2 - 1)) (read_from t w k low (r / 2)))
    read-t = halving t w k low r h ∙ ap (λ (x : Bool). m ∷ cond x (read_from t w k (m + 1) (r - r / 2 - 1)) (read_from t w k low (r / 2))) (ap (λ (x : ℕ). ltb x k) same ∙ e)

  up : (low r : ℕ) (l : List ℕ) → 0 < r → ltb (key_at s w (low + r / 2)) k ≡ true → Alike (low + r / 2 + 1) (r - r / 2 - 1) l → Alike low r ((low + r / 2) ∷ l)
  up low r l h e i f a b g =
      let same = g 0 (omega arith) in
      let rest = i f (halved-s low r h f same true e a) (halved-t low r h f same true e b) (λ j p. g (suc j) (omega arith)) in
      (read-t low r h f same true e ∙ ap (λ (x : List ℕ). (low + r / 2) ∷ x) rest.0, rest.1)

  down : (low r : ℕ) (l : List ℕ) → 0 < r → ltb (key_at s w (low + r / 2)) k ≡ false → Alike low (r / 2) l → Alike low r ((low + r / 2) ∷ l)
  down low r l h e i f a b g =
      let same = g 0 (omega arith) in
      let rest = i (eqb (key_at s w (low + r / 2)) k) (halved-s low r h f same false e a) (halved-t low r h f same false e b) (λ j p. g (suc j) (omega arith)) in
      (read-t low r h f same false e ∙ ap (λ (x : List ℕ). (low + r / 2) ∷ x) rest.0, rest.1)

  no-other-row : ((j : ℕ) → j < length (rows_read s w n k) → key_at t w (get_or (rows_read s w n k) j 0) ≡ key_at s w (get_or (rows_read s w n k) j 0))
      → (rows_read t w n k ≡ rows_read s w n k) × (place_of t w n k ≡ place_of s w n k)
  no-other-row = by-halves s w k Alike start up down 0 n false (holds-start s w n k) (holds-start t w n k)

-- ---- W-213's statement

-- in a sorted table no row is below the first
all-needed : (s : List ℕ) (w n k : ℕ) → Sorted s w n → k ≤ key_at s w 0 → length (rows_read s w n k) ≡ digits n
all-needed s w n k o h = exact s w k 0 n (λ i p q. ⊎_elim (λ e. omega (arith, ap (key_at s w) e)) (λ l. omega (arith, o 0 i l (omega arith))) (le-cases 0 i p))

lookup-figures : LookupFigures
unfolding read_in digits_in numbered
lookup-figures = record {
  of-1 = (refl, refl, refl);
  of-2 = (refl, refl, refl);
  of-3 = (refl, refl, refl);
  of-1023 = (refl, refl);
  of-1024 = (refl, refl);
  behind-1024 = (refl, refl);
}

pub lookup-shown : LookupShown
lookup-shown = record {
  halving = halving;
  at_most = λ s w n k. at_most s w k 0 n;
  none = λ s w k. ap length (read_none s w k 0 0 0 refl);
  binary = binary;
  used-rows = λ s w n k j h. subst (λ (x : ℕ). get_or (rows_read s w n k) j 0 < x) (zero-add n) ((apart s w k 0 n).0 j h).1;
  once = λ s w n k. (apart s w k 0 n).1;
  all-needed = all-needed;
  no-other-row = no-other-row;
  figures = lookup-figures;
}
