-- The rows of a table as a list, put and found: what a search's place says of them, for a row type of any kind.
use Rattle.std.proofs.Common.{Result, Ok, Err}
use mathlib.Core.Path.{◌≡◌, refl, ap, ◌∙◌}
use mathlib.Core.Bool.{Bool, true, false, cond}
use mathlib.Core.List.{List, [], ◌∷◌, ◌++◌}
use Prim.Native.Nat.{ℕ, zero, suc, ◌+◌, ◌-◌, ◌≤◌, ◌<◌}
use native.Mathlib.Nat.{zero-add, suc-add, add-zero}
use native.Mathlib.Omega.{arith}
use lib.ListN.{length, length-append}
use borrow.Author.Tests.{lt-ltb, le-ltb, eq-eqb, ne_eqb}
use Rattle.rows.specs.Rows.{key_at, Sorted}
use Rattle.rows.specs.Lookup.{place_of}
use Rattle.rows.proofs.Order.{Placed, placed}
use Rattle.rules.specs.Table.{find, put, keep}
use Rattle.books.specs.Tables.{rows_from}
use Rattle.books.specs.inner.Put.{put_count}

pub rows-length : {A : Type 0} (row_at : List ℕ → ℕ → A) (s : List ℕ) (i n : ℕ) → length (rows_from row_at s i n) ≡ n
unfolding rows_from
rows-length row_at s i zero = refl
rows-length row_at s i (suc n) = ap suc (rows-length row_at s (suc i) n)

-- the first d rows, and then the others
pub rows-split-at : {A : Type 0} (row_at : List ℕ → ℕ → A) (s : List ℕ) (i d e : ℕ) → rows_from row_at s i (d + e) ≡ rows_from row_at s i d ++ rows_from row_at s (i + d) e
unfolding rows_from
rows-split-at row_at s i zero e = rw (zero-add, add-zero)
rows-split-at row_at s i (suc d) e =
    let f : suc i + d ≡ i + suc d = omega arith in
    ap (λ (k : ℕ). rows_from row_at s i k) (suc-add d e)
    ∙ ap (λ (r : List _). row_at s i ∷ r) (rows-split-at row_at s (suc i) d e ∙ ap (λ (k : ℕ). rows_from row_at s (suc i) d ++ rows_from row_at s k e) f)

-- one more row, as a loop over rows takes it: i of n rows are passed
pub rows_next : {A : Type 0} (row_at : List ℕ → ℕ → A) (s : List ℕ) (i n : ℕ) → i < n → rows_from row_at s i (n - i) ≡ row_at s i ∷ rows_from row_at s (i + 1) (n - (i + 1))
unfolding rows_from
rows_next row_at s i n h =
    let e : n - i ≡ suc (n - (i + 1)) = omega arith in
    let f : suc i ≡ i + 1 = omega arith in
    ap (λ (k : ℕ). rows_from row_at s i k) e ∙ ap (λ (k : ℕ). row_at s i ∷ rows_from row_at s k (n - (i + 1))) f

-- and as a loop from the last row down takes it
pub rows_before : {A : Type 0} (row_at : List ℕ → ℕ → A) (s : List ℕ) (i n : ℕ) → 0 < i → i ≤ n → rows_from row_at s (i - 1) (n - (i - 1)) ≡ row_at s (i - 1) ∷ rows_from row_at s i (n - i)
rows_before row_at s i n some most =
    let e : i - 1 + 1 ≡ i = omega arith in
    rows_next row_at s (i - 1) n (omega arith) ∙ ap (λ (k : ℕ). row_at s (i - 1) ∷ rows_from row_at s k (n - k)) e

-- and none is left
pub rows-done : {A : Type 0} (row_at : List ℕ → ℕ → A) (s : List ℕ) (i n : ℕ) → n ≤ i → rows_from row_at s i (n - i) ≡ []
unfolding rows_from
rows-done row_at s i n h =
    let e : n - i ≡ 0 = omega arith in
    ap (λ (k : ℕ). rows_from row_at s i k) e

-- the row that a place stands for
abbrev pub row_or : {A : Type 0} → (List ℕ → ℕ → A) → List ℕ → A → Result ℕ ℕ → A
row_or row_at s d (Ok i) = row_at s i
row_or row_at s d (Err i) = d

module _ {A : Type 0} (row_at : List ℕ → ℕ → A) (key : A → ℕ) (s : List ℕ) (w : ℕ) (key-is : (i : ℕ) → key (row_at s i) ≡ key_at s w i) where
  -- a search passes rows with smaller keys
  find_past : (d : A) (k i m e : ℕ) → ((j : ℕ) → i ≤ j → j < i + m → key_at s w j < k) → find key d k (rows_from row_at s i (m + e)) ≡ find key d k (rows_from row_at s (i + m) e)
  unfolding rows_from find
  find_past d k i zero e h = rw (zero-add, add-zero)
  find_past d k i (suc m) e h =
      let f : suc i + m ≡ i + suc m = omega arith in
      ap (λ (x : ℕ). find key d k (rows_from row_at s i x)) (suc-add m e)
      ∙ rw (key-is, lt-ltb (key_at s w i) k (h i (omega arith) (omega arith)))
      (find_past d k (suc i) m e (λ j p q. h j (omega arith) (omega arith)) ∙ ap (λ (x : ℕ). find key d k (rows_from row_at s x e)) f)

  -- the row at a place with the key, and none at a gap
  find-here : (d : A) (k i e : ℕ) → key_at s w i ≡ k → find key d k (rows_from row_at s i (suc e)) ≡ row_at s i
  unfolding rows_from find
  find-here d k i e h = rw (key-is, le-ltb (key_at s w i) k (omega arith), eq-eqb (key_at s w i) k h)

  find_none : (d : A) (k i e : ℕ) → ((j : ℕ) → i ≤ j → j < i + e → k < key_at s w j) → find key d k (rows_from row_at s i e) ≡ d
  unfolding rows_from find
  find_none d k i zero h = refl
  find_none d k i (suc e) h =
      let l : k < key_at s w i = h i (omega arith) (omega arith) in
      rw (key-is, le-ltb (key_at s w i) k (omega arith), ne_eqb (key_at s w i) k (λ q. omega arith))

  -- what a search's place says is what the rules find
  pub find-place : (d : A) (k n : ℕ) → Sorted s w n → find key d k (rows_from row_at s 0 n) ≡ row_or row_at s d (place_of s w n k)
  find-place d k n o = go (place_of s w n k) (placed s w n k o)
    where
      go : (p : Result ℕ ℕ) → Placed s w n k p → find key d k (rows_from row_at s 0 n) ≡ row_or row_at s d p
      go (Ok i) h =
          let e : n ≡ i + suc (n - i - 1) = omega (arith, h.0) in
          ap (λ (x : ℕ). find key d k (rows_from row_at s 0 x)) e
          ∙ find_past d k 0 i (suc (n - i - 1)) (λ j p q. omega (arith, h.1, o j i (omega arith) h.0))
          ∙ ap (λ (x : ℕ). find key d k (rows_from row_at s x (suc (n - i - 1)))) (zero-add i)
          ∙ find-here d k i (n - i - 1) h.1
      go (Err i) b =
          let e : n ≡ i + (n - i) = omega (arith, b.hi-le) in
          ap (λ (x : ℕ). find key d k (rows_from row_at s 0 x)) e
          ∙ find_past d k 0 i (n - i) (λ j p q. b.below j (omega arith))
          ∙ ap (λ (x : ℕ). find key d k (rows_from row_at s x (n - i))) (zero-add i)
          ∙ find_none d k i (n - i) (λ j p q. b.above j p (omega arith))

  -- a row put: the rows with smaller keys stay, and it comes after them
  module _ (gone : A → Bool) (r : A) where
    put-past : (i m e : ℕ) → ((j : ℕ) → i ≤ j → j < i + m → key_at s w j < key r)
        → put key gone r (rows_from row_at s i (m + e)) ≡ rows_from row_at s i m ++ put key gone r (rows_from row_at s (i + m) e)
    unfolding rows_from put
    put-past i zero e h = rw (zero-add, add-zero)
    put-past i (suc m) e h =
        let f : suc i + m ≡ i + suc m = omega arith in
        ap (λ (x : ℕ). put key gone r (rows_from row_at s i x)) (suc-add m e)
        ∙ rw (key-is, lt-ltb (key_at s w i) (key r) (h i (omega arith) (omega arith)))
        (ap (λ (l : List A). row_at s i ∷ l)
        (put-past (suc i) m e (λ j p q. h j (omega arith) (omega arith)) ∙ ap (λ (x : ℕ). rows_from row_at s (suc i) m ++ put key gone r (rows_from row_at s x e)) f))

    put-here : (i e : ℕ) → key_at s w i ≡ key r → put key gone r (rows_from row_at s i (suc e)) ≡ keep gone r (rows_from row_at s (suc i) e)
    unfolding rows_from put
    put-here i e h = rw (key-is, le-ltb (key_at s w i) (key r) (omega arith), eq-eqb (key_at s w i) (key r) h)

    put-none : (i e : ℕ) → ((j : ℕ) → i ≤ j → j < i + e → key r < key_at s w j) → put key gone r (rows_from row_at s i e) ≡ keep gone r (rows_from row_at s i e)
    unfolding rows_from put
    put-none i zero h = refl
    put-none i (suc e) h =
        let l : key r < key_at s w i = h i (omega arith) (omega arith) in
        rw (key-is, le-ltb (key_at s w i) (key r) (omega arith), ne_eqb (key_at s w i) (key r) (λ q. omega arith))

    -- the rows after a row is put at a place
    abbrev pub put_rows : ℕ → Result ℕ ℕ → List A
    put_rows n (Ok i) = rows_from row_at s 0 i ++ keep gone r (rows_from row_at s (i + 1) (n - i - 1))
    put_rows n (Err i) = rows_from row_at s 0 i ++ keep gone r (rows_from row_at s i (n - i))

    pub put-place : (n : ℕ) → Sorted s w n → put key gone r (rows_from row_at s 0 n) ≡ put_rows n (place_of s w n (key r))
    put-place n o = go (place_of s w n (key r)) (placed s w n (key r) o)
      where
        go : (p : Result ℕ ℕ) → Placed s w n (key r) p → put key gone r (rows_from row_at s 0 n) ≡ put_rows n p
        go (Ok i) h =
            let e : n ≡ i + suc (n - i - 1) = omega (arith, h.0) in
            let f : suc i ≡ i + 1 = omega arith in
            ap (λ (x : ℕ). put key gone r (rows_from row_at s 0 x)) e
            ∙ put-past 0 i (suc (n - i - 1)) (λ j p q. omega (arith, h.1, o j i (omega arith) h.0))
            ∙ ap (λ (x : ℕ). rows_from row_at s 0 i ++ put key gone r (rows_from row_at s x (suc (n - i - 1)))) (zero-add i)
            ∙ ap (λ (l : List A). rows_from row_at s 0 i ++ l) (put-here i (n - i - 1) h.1 ∙ ap (λ (x : ℕ). keep gone r (rows_from row_at s x (n - i - 1))) f)
        go (Err i) b =
            let e : n ≡ i + (n - i) = omega (arith, b.hi-le) in
            ap (λ (x : ℕ). put key gone r (rows_from row_at s 0 x)) e
            ∙ put-past 0 i (n - i) (λ j p q. b.below j (omega arith))
            ∙ ap (λ (x : ℕ). rows_from row_at s 0 i ++ put key gone r (rows_from row_at s x (n - i))) (zero-add i)
            ∙ ap (λ (l : List A). rows_from row_at s 0 i ++ l) (put-none i (n - i) (λ j p q. b.above j p (omega arith)))

    -- how many they are
    pub put_count_lem : (n : ℕ) → Sorted s w n → length (put key gone r (rows_from row_at s 0 n)) ≡ put_count n (gone r) (place_of s w n (key r))
    put_count_lem n o = ap length (put-place n o) ∙ go (place_of s w n (key r)) (placed s w n (key r) o)
      where
        kept : (t : Bool) (l : List A) → length (cond t l (r ∷ l)) ≡ cond t (length l) (suc (length l))
        kept true l = refl
        kept false l = refl

        joined : (i : ℕ) (l : List A) → length (rows_from row_at s 0 i ++ keep gone r l) ≡ i + cond (gone r) (length l) (suc (length l))
        joined i l = length-append (rows_from row_at s 0 i) (keep gone r l) ∙ rw (rows-length, kept)

        go : (p : Result ℕ ℕ) → Placed s w n (key r) p → length (put_rows n p) ≡ put_count n (gone r) p
        go (Ok i) h = joined i (rows_from row_at s (i + 1) (n - i - 1)) ∙ pick (gone r)
          where
            pick : (t : Bool) → i + cond t (length (rows_from row_at s (i + 1) (n - i - 1))) (suc (length (rows_from row_at s (i + 1) (n - i - 1)))) ≡ cond t (n - 1) n
            pick true = omega (arith, rows-length row_at s (i + 1) (n - i - 1), h.0)
            pick false = omega (arith, rows-length row_at s (i + 1) (n - i - 1), h.0)
        go (Err i) b = joined i (rows_from row_at s i (n - i)) ∙ pick (gone r)
          where
            pick : (t : Bool) → i + cond t (length (rows_from row_at s i (n - i))) (suc (length (rows_from row_at s i (n - i)))) ≡ cond t n (n + 1)
            pick true = omega (arith, rows-length row_at s i (n - i), b.hi-le)
            pick false = omega (arith, rows-length row_at s i (n - i), b.hi-le)
