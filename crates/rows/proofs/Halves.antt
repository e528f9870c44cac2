-- One turn of a search by halving: what it keeps, and that it leaves fewer rows.
use Rattle.std.proofs.Common.{Ok, Err}
use mathlib.Core.Path.{◌≡◌, refl, sym, ap, subst}
use mathlib.Core.Bool.{Bool, true, false, not}
use mathlib.Core.Logic.{⊎_elim, ◌≢◌}
use mathlib.Core.List.{List}
use Prim.Native.Nat.{ℕ, ◌+◌, ◌-◌, ◌/◌, ◌≤◌, ◌<◌}
use native.Mathlib.Nat.{mul-le-mul_right, div-mul-le_self}
use native.Mathlib.Omega.{arith}
use lib.Dec.{ltb, eqb}
use lib.ListN.{length}
use borrow.Author.Tests.{ltb-true, ltb-false, eqb-true, eqb-false}
use Rattle.rows.specs.Rows.{number_word, word, key_at, Sorted}
use Rattle.rows.specs.inner.Order.{Used, Packed}
use Rattle.rows.specs.Lookup.{place_of}
use Rattle.rows.proofs.Order.{le-cases, lt-or-le, place-gap, place_at}

-- the rows in question, from row `low` on, and whether the row just behind them has the key
pub record Span : Type 0 where
  pub low : ℕ
  pub rows : ℕ
  pub found : Bool

-- what is left of a span once its middle row is read: the rows after it, with the same row behind them, or those before it, with the middle row
-- behind them, of which `found` says whether it has the key
abbrev pub half_of : Span → Bool → Bool → Span
half_of at true found = record { low = at.low + at.rows / 2 + 1; rows = at.rows - at.rows / 2 - 1; found = at.found }
half_of at false found = record { low = at.low; rows = at.rows / 2; found = found }

-- a turn leaves at most half of the rows, so that there are at most as many turns as the number of rows has binary digits
pub half-rows : (at : Span) (after found : Bool) → 0 < at.rows → (half_of at after found).rows ≤ at.rows / 2
half-rows at true found h = omega arith
half-rows at false found h = omega arith

-- the row behind a span: it has the key, or it and all rows after it are above the key
abbrev Behind : List ℕ → ℕ → ℕ → ℕ → ℕ → Bool → Type 0
Behind s w n k i true = (i < n) × (key_at s w i ≡ k)
Behind s w n k i false = (j : ℕ) → i ≤ j → j < n → k < key_at s w j

-- a span that holds the place of k among the first n rows
pub record Holds (s : List ℕ) (w n k : ℕ) (at : Span) : Type 0 where
  pub fits : at.low + at.rows ≤ n
  pub below : (j : ℕ) → j < at.low → key_at s w j < k
  pub behind : Behind s w n k (at.low + at.rows) at.found

module _ (s : List ℕ) (w n k : ℕ) where
  pub holds-start : Holds s w n k (record { low = 0; rows = n; found = false })
  holds-start = record { fits = omega arith; below = λ j l. absurd (omega arith); behind = λ j l q. absurd (omega arith) }

  module _ (o : Sorted s w n) where
    -- the middle row settles the rows on one side of it
    module _ (at : Span) (m : ℕ) (e : m ≡ at.low + at.rows / 2) (h : 0 < at.rows) (b : Holds s w n k at) where
      up : key_at s w m < k → (j : ℕ) → j < m + 1 → key_at s w j < k
      up l j q = ⊎_elim (λ r. omega (arith, ap (key_at s w) r)) (λ r. omega (arith, o j m r (omega arith))) (le-cases j m (omega arith))

      down : k ≤ key_at s w m → (f : Bool) → eqb (key_at s w m) k ≡ f → Behind s w n k m f
      down l true g = (omega arith, eqb-true (key_at s w m) k g)
      down l false g =
          let above : k < key_at s w m = ⊎_elim (λ r. absurd (eqb-false (key_at s w m) k g (sym r))) (λ r. r) (le-cases k (key_at s w m) l) in
          λ j p q. ⊎_elim (λ r. omega (arith, ap (key_at s w) r)) (λ r. omega (arith, o m j r q)) (le-cases m j p)

      half : (t f : Bool) → ltb (key_at s w m) k ≡ t → eqb (key_at s w m) k ≡ f → Holds s w n k (half_of at t f)
      half true f g d = record {
        fits = omega arith;
        below = λ j l. up (ltb-true (key_at s w m) k g) j (omega arith);
        behind = subst (λ (i : ℕ). Behind s w n k i at.found) (omega arith) b.behind;
      }
      half false f g d = record {
        fits = omega arith;
        below = b.below;
        behind = subst (λ (i : ℕ). Behind s w n k i f) e (down (ltb-false (key_at s w m) k g) f d);
      }

      pub holds-half : Holds s w n k (half_of at (ltb (key_at s w m) k) (eqb (key_at s w m) k))
      holds-half = half (ltb (key_at s w m) k) (eqb (key_at s w m) k) refl refl

    -- no row is in question: the row behind is the place, or its gap
    module _ (at : Span) (z : at.rows ≡ 0) (b : Holds s w n k at) where
      behind-low : (f : Bool) → at.found ≡ f → Behind s w n k at.low f
      behind-low f e = subst (λ (i : ℕ). Behind s w n k i f) (omega arith) (subst (Behind s w n k (at.low + at.rows)) e b.behind)

      pub holds_at : at.found ≡ true → Ok at.low ≡ place_of s w n k
      holds_at e =
          let h = behind-low true e in
          sym (place_at s w k n at.low h.0 h.1 (λ j p q. omega (arith, o at.low j p q, h.1)))

      pub holds-gap : at.found ≡ false → Err at.low ≡ place_of s w n k
      holds-gap e = sym (place-gap s w k n at.low (record { lo-le = omega arith; hi-le = omega arith; below = b.below; above = behind-low false e }))

-- a span that holds the number of used rows
pub record Counts (s : List ℕ) (w : ℕ) (at : Span) : Type 0 where
  pub fits : at.low + at.rows ≤ length s / w
  pub used : (i : ℕ) → i < at.low → word s w i number_word ≢ 0
  pub stop : at.low + at.rows < length s / w → word s w (at.low + at.rows) number_word ≡ 0

module _ (s : List ℕ) (w : ℕ) where
  pub counts_start : Counts s w (record { low = 0; rows = length s / w; found = false })
  counts_start = record { fits = omega arith; used = λ i l. absurd (omega arith); stop = λ l. absurd (omega arith) }

  module _ (p : Packed s w) (at : Span) (m : ℕ) (e : m ≡ at.low + at.rows / 2) (h : 0 < at.rows) (b : Counts s w at) where
    counted : (t f : Bool) → eqb (word s w m number_word) 0 ≡ t → Counts s w (half_of at (not t) f)
    counted true f g = record {
      fits = omega arith;
      used = b.used;
      stop = λ l. subst (λ (i : ℕ). word s w i number_word ≡ 0) e (eqb-true (word s w m number_word) 0 g);
    }
    counted false f g = record {
      fits = omega arith;
      used = λ i l. p.used i (⊎_elim (λ q. omega arith) (λ q. absurd (eqb-false (word s w m number_word) 0 g (p.unused m q (omega arith)))) (lt-or-le m p.rows));
      stop = λ l. subst (λ (i : ℕ). word s w i number_word ≡ 0) (omega arith) (b.stop (omega arith));
    }

    pub counts-half : (f : Bool) → Counts s w (half_of at (not (eqb (word s w m number_word) 0)) f)
    counts-half f = counted (eqb (word s w m number_word) 0) f refl

  pub counts-used : (at : Span) → at.rows ≡ 0 → Counts s w at → Used s w at.low
  counts-used at z b =
      let e : at.low + at.rows ≡ at.low = omega arith in
      let l : at.low ≤ length s / w = omega arith in
      record {
        fits = omega (arith, mul-le-mul_right w l, div-mul-le_self (length s) w);
        used = b.used;
        stop = λ q. subst (λ (i : ℕ). word s w i number_word ≡ 0) e (b.stop (omega arith));
      }
