-- What tests tell: lists of tests by place, numbers and pools, and how `cond` goes by cases.
use mathlib.Core.Path.{◌≡◌, refl, sym}
use mathlib.Core.Bool.{Bool, true, false, not, cond, ◌&&◌, ◌||◌, true≢false}
use mathlib.Core.List.{List, [], ◌∷◌}
use Prim.Native.Nat.{ℕ, zero, suc, ◌≤◌, ◌<◌}
use native.Mathlib.Decide.{ℕ_discrete}
use native.Mathlib.Omega.{arith}
use borrow.Author.Tests.{ltb-true, leb-true, eqb-true, eqb-false, lt-ltb, le-leb}
use lib.Dec.{ltb, eqb}
use lib.ListN.{get_or}
use Rattle.rules.specs.Limits.{flat, two_to64, is_pool, is_number}
use Rattle.rules.specs.Table.{each, all, each_below}
use Rattle.rules.specs.inner.Facts.{Number}

-- by cases on the test of a `cond`
pub cases : {X : Type 0} (t : Bool) (x y : X) (P : X → Type 0) → (t ≡ true → P x) → (t ≡ false → P y) → P (cond t x y)
cases true x y P f g = f refl
cases false x y P f g = g refl

-- ---- and, or

pub and_left : (x y : Bool) → (x && y) ≡ true → x ≡ true
and_left true y e = refl
and_left false y e = e

pub and_right : (x y : Bool) → (x && y) ≡ true → y ≡ true
and_right true y e = e
and_right false y e = absurd (true≢false (sym e))

pub or_left : (x y : Bool) → (x || y) ≡ false → x ≡ false
or_left true y e = e
or_left false y e = refl

pub or_right : (x y : Bool) → (x || y) ≡ false → y ≡ false
or_right true y e = absurd (true≢false e)
or_right false y e = e

-- ---- each, all

module _ {A : Type 0} (f : A → Bool) (x : A) (rows : List A) where
  pub each_first : each f (x ∷ rows) ≡ true → (f x ≡ true) × (each f rows ≡ true)
  unfolding each
  each_first e = go (f x) e
    where
      go : (t : Bool) → cond t (each f rows) false ≡ true → (t ≡ true) × (each f rows ≡ true)
      go true e = (refl, e)
      go false e = absurd (true≢false (sym e))

  pub each_more : f x ≡ true → each f rows ≡ true → each f (x ∷ rows) ≡ true
  unfolding each
  each_more e g = rw (e, g)

-- of tests that all hold, the k-th
pub nth : (tests : List Bool) → all tests ≡ true → (k : ℕ) → get_or tests k true ≡ true
nth [] e k = refl
nth (t ∷ tests) e zero = (each_first (λ (x : Bool). x) t tests e).0
nth (t ∷ tests) e (suc k) = nth tests (each_first (λ (x : Bool). x) t tests e).1 k

-- all hold, where each does
abbrev pub Hold : List Bool → Type 0
Hold [] = Unit {0}
Hold (t ∷ tests) = (t ≡ true) × Hold tests

pub held : (tests : List Bool) → Hold tests → all tests ≡ true
unfolding each
held [] h = refl
held (t ∷ tests) h = each_more (λ (x : Bool). x) t tests h.0 (held tests h.1)

-- ---- each number below another

module _ (f : ℕ → Bool) where
  pub below-read : (n : ℕ) → each_below n f ≡ true → (k : ℕ) → k < n → f k ≡ true
  unfolding each_below
  below-read zero e k h = absurd (omega arith)
  below-read (suc n) e k h = go (f n) refl e (below-read n) (ℕ_discrete k n)
    where
      go : (t : Bool) → f n ≡ t → cond t (each_below n f) false ≡ true → (each_below n f ≡ true → (k : ℕ) → k < n → f k ≡ true) → Dec (k ≡ n) → f k ≡ true
      go true g e i (yes q) = rw q g
      go true g e i (no q) = i e k (omega arith)
      go false g e i d = absurd (true≢false (sym e))

  pub below-made : (n : ℕ) → ((k : ℕ) → k < n → f k ≡ true) → each_below n f ≡ true
  unfolding each_below
  below-made zero h = refl
  below-made (suc n) h = rw (h n (omega arith)) (below-made n (λ k l. h k (omega arith)))

-- ---- pools and numbers

pub pool-read : (pool : ℕ) → is_pool pool ≡ true → pool ≤ flat
unfolding is_pool
pool-read pool e = leb-true pool flat e

pub pool-made : (pool : ℕ) → pool ≤ flat → is_pool pool ≡ true
unfolding is_pool
pool-made pool h = le-leb pool flat h

pub number_read : (n : ℕ) → is_number n ≡ true → Number n
unfolding is_number
number_read n e = record { some = ltb-true 0 n (and_left (ltb 0 n) _ e); word = ltb-true n two_to64 (and_right (ltb 0 n) _ e) }

pub number-made : (n : ℕ) → Number n → is_number n ≡ true
unfolding is_number
number-made n h = rw (lt-ltb 0 n h.some, lt-ltb n two_to64 h.word)

-- of a word the test is only that it is not 0
pub word_number : (n : ℕ) → n < two_to64 → is_number n ≡ not (eqb n 0)
unfolding is_number
word_number n h = go (eqb n 0) refl
  where
    go : (t : Bool) → eqb n 0 ≡ t → (ltb 0 n && ltb n two_to64) ≡ not t
    go true e = let z = eqb-true n 0 e in rw z
    go false e = let z = eqb-false n 0 e in rw (lt-ltb 0 n (omega arith), lt-ltb n two_to64 h)
