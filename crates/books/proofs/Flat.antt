-- Rows written as words: a table is the words of its rows and then zeros, and stays so where a row is put.
use Rattle.std.proofs.Common.{Result, Ok, Err}
use mathlib.Core.Path.{◌≡◌, refl, sym, ap, ap₂, ◌∙◌}
use mathlib.Core.Bool.{Bool, true, false, cond}
use mathlib.Core.List.{List, [], ◌∷◌, ◌++◌, append_assoc}
use Prim.Native.Nat.{ℕ, zero, suc, ◌+◌, ◌-◌, ◌*◌, ◌≤◌, ◌<◌}
use native.Mathlib.Nat.{zero-mul}
use native.Mathlib.Omega.{arith}
use lib.ListN.{length, take, drop, length-append, length-drop, length-replicate, get_or-replicate, take-append-drop, replicate-append-replicate}
use lib.Seq.{take-add, drop-drop, get_or-drop, ext_get_or}
use Rattle.rows.specs.inner.Order.{Blank}
use Rattle.rows.specs.Rows.{zeros, key_at, Sorted}
use Rattle.rows.specs.Lookup.{place_of}
use Rattle.rows.proofs.Order.{Placed, placed}
use Rattle.rows.proofs.Table.{rows_split, rows-after}
use Rattle.rules.specs.Table.{put}
use Rattle.books.specs.Tables.{rows_from, words_of_rows}
use Rattle.books.specs.inner.Put.{put_words, put_count}
use Rattle.books.proofs.Lists.{rows-split-at, put-place, put_rows, put_count_lem}

pub flat_append : {A : Type 0} (enc : A → List ℕ) (xs ys : List A) → words_of_rows enc (xs ++ ys) ≡ words_of_rows enc xs ++ words_of_rows enc ys
unfolding words_of_rows
flat_append enc [] ys = refl
flat_append enc (x ∷ xs) ys = rw (flat_append enc xs ys, append_assoc)

pub flat-length : {A : Type 0} (enc : A → List ℕ) (w : ℕ) → ((r : A) → length (enc r) ≡ w) → (rows : List A) → length (words_of_rows enc rows) ≡ length rows * w
unfolding words_of_rows
flat-length enc w width [] = sym (zero-mul w)
flat-length enc w width (r ∷ rows) = omega (arith, length-append (enc r) (words_of_rows enc rows), width r, flat-length enc w width rows)

-- words that are all 0 from an index on
pub blank-zeros : (s : List ℕ) (from : ℕ) → Blank s from → drop from s ≡ zeros (length s - from)
blank-zeros s from b =
    ext_get_or 0 (drop from s) (zeros (length s - from)) (length-drop from s ∙ sym (length-replicate (length s - from) 0))
    (λ i h. get_or-drop from s i 0 ∙ b (from + i) (omega arith) ∙ sym (get_or-replicate (length s - from) i 0 0 (omega (arith, length-drop from s))))

-- rows of w words each, read from the words s and written again
module _ {A : Type 0} (row_at : List ℕ → ℕ → A) (enc : A → List ℕ) (s : List ℕ) (w : ℕ) (same : (i : ℕ) → i * w + w ≤ length s → enc (row_at s i) ≡ take w (drop (i * w) s)) where
  -- are the words that they were read from
  pub flat_rows : (i n : ℕ) → i * w + n * w ≤ length s → words_of_rows enc (rows_from row_at s i n) ≡ take (n * w) (drop (i * w) s)
  unfolding words_of_rows rows_from
  flat_rows i zero h = rw zero-mul
  flat_rows i (suc n) h =
      let e : suc n * w ≡ w + n * w = omega arith in
      let f : i * w + w ≡ suc i * w = omega arith in
      ap₂ (λ (a b : List ℕ). a ++ b) (same i (omega arith)) (flat_rows (suc i) n (omega arith))
      ∙ sym (ap (λ (k : ℕ). take k (drop (i * w) s)) e ∙ take-add w (n * w) (drop (i * w) s) ∙ ap (λ (l : List ℕ). take w (drop (i * w) s) ++ take (n * w) l) (drop-drop w (i * w) s ∙ ap (λ (k : ℕ). drop k s) f))

  low : (i : ℕ) → i * w ≤ length s → words_of_rows enc (rows_from row_at s 0 i) ≡ take (i * w) s
  low i h = flat_rows 0 i (omega (arith, zero-mul w)) ∙ ap (λ (k : ℕ). take (i * w) (drop k s)) (zero-mul w)

  module _ (n : ℕ) (fits : n * w ≤ length s) (blank : Blank s (n * w)) where
    -- a table is the words of its rows, and then zeros
    pub table-words : words_of_rows enc (rows_from row_at s 0 n) ++ zeros (length s - n * w) ≡ s
    table-words = ap₂ (λ (a b : List ℕ). a ++ b) (low n fits) (sym (blank-zeros s (n * w) blank)) ∙ take-append-drop (n * w) s

    -- the rows from i on, and the zeros after them
    tail : (i m k : ℕ) → i * w + m * w ≡ n * w → k ≡ i * w → drop k s ≡ words_of_rows enc (rows_from row_at s i m) ++ zeros (length s - n * w)
    tail i m k h q =
        ap (λ (j : ℕ). drop j s) q
        ∙ sym (take-append-drop (m * w) (drop (i * w) s))
        ∙ ap₂ (λ (a b : List ℕ). a ++ b) (sym (flat_rows i m (omega arith)))
        (drop-drop (m * w) (i * w) s ∙ ap (λ (j : ℕ). drop j s) h ∙ blank-zeros s (n * w) blank)

    spread : (a b : List A) (z : List ℕ) → words_of_rows enc (a ++ b) ++ z ≡ words_of_rows enc a ++ (words_of_rows enc b ++ z)
    spread a b z = ap (λ (l : List ℕ). l ++ z) (flat_append enc a b) ∙ append_assoc (words_of_rows enc a) (words_of_rows enc b) z

    module _ (r : A) (width : length (enc r) ≡ w) where
      -- a row put in place of row i, or row i taken out
      put-at : (t : Bool) (i : ℕ) → i < n
          → put_words w s n (enc r) t (Ok i)
          ≡ words_of_rows enc (rows_from row_at s 0 i ++ cond t (rows_from row_at s (i + 1) (n - i - 1)) (r ∷ rows_from row_at s (i + 1) (n - i - 1))) ++ zeros (length s - cond t (n - 1) n * w)
      unfolding words_of_rows
      put-at true i h =
          let m : ℕ = n - i - 1 in
          let q : i * w + w + m * w ≡ n * w = rows-after w i n h in
          let e : i * w + w ≡ (i + 1) * w = omega arith in
          let g : n - 1 + 1 ≡ n = omega arith in
          let d : w + (length s - n * w) ≡ length s - (n - 1) * w = omega (arith, ap (λ (k : ℕ). k * w) g) in
          let a : words_of_rows enc (rows_from row_at s 0 i) ≡ take (i * w) s = low i (omega arith) in
          let b : words_of_rows enc (rows_from row_at s (i + 1) m) ≡ take (m * w) (drop (i * w + w) s) = flat_rows (i + 1) m (omega arith) ∙ ap (λ (k : ℕ). take (m * w) (drop k s)) (sym e) in
          let c : zeros w ++ drop (n * w) s ≡ zeros (length s - (n - 1) * w) = ap (λ (l : List ℕ). zeros w ++ l) (blank-zeros s (n * w) blank) ∙ replicate-append-replicate w (length s - n * w) 0 ∙ ap zeros d in
          cc (spread (rows_from row_at s 0 i) (rows_from row_at s (i + 1) m) (zeros (length s - (n - 1) * w)))
      put-at false i h =
          let m : ℕ = n - i - 1 in
          let q : i * w + w + m * w ≡ n * w = rows-after w i n h in
          let a : words_of_rows enc (rows_from row_at s 0 i) ≡ take (i * w) s = low i (omega arith) in
          let b : drop (i * w + w) s ≡ words_of_rows enc (rows_from row_at s (i + 1) m) ++ zeros (length s - n * w) = tail (i + 1) m (i * w + w) (omega arith) (omega arith) in
          cc (
            spread (rows_from row_at s 0 i) (r ∷ rows_from row_at s (i + 1) m) (zeros (length s - n * w)),
            append_assoc (enc r) (words_of_rows enc (rows_from row_at s (i + 1) m)) (zeros (length s - n * w)),
          )

      -- a row put between the rows below i and the others
      put-gap : (t : Bool) (i : ℕ) → i ≤ n → cond t n (n + 1) * w ≤ length s
          → put_words w s n (enc r) t (Err i)
          ≡ words_of_rows enc (rows_from row_at s 0 i ++ cond t (rows_from row_at s i (n - i)) (r ∷ rows_from row_at s i (n - i))) ++ zeros (length s - cond t n (n + 1) * w)
      unfolding words_of_rows
      put-gap true i h l =
          let e : i + (n - i) ≡ n = omega arith in
          let f : 0 + i ≡ i = omega arith in
          sym table-words
          ∙ ap (λ (l : List A). words_of_rows enc l ++ zeros (length s - n * w))
          (ap (λ (k : ℕ). rows_from row_at s 0 k) (sym e) ∙ rows-split-at row_at s 0 i (n - i) ∙ ap (λ (k : ℕ). rows_from row_at s 0 i ++ rows_from row_at s k (n - i)) f)
      put-gap false i h l =
          let m : ℕ = n - i in
          let q : i * w + m * w ≡ n * w = rows_split w i n h in
          let f : n * w + w ≡ (n + 1) * w = omega arith in
          let a : words_of_rows enc (rows_from row_at s 0 i) ≡ take (i * w) s = low i (omega arith) in
          let b : words_of_rows enc (rows_from row_at s i m) ≡ take (m * w) (drop (i * w) s) = flat_rows i m (omega arith) in
          let d : drop (n * w + w) s ≡ zeros (length s - (n + 1) * w) = blank-zeros s (n * w + w) (λ j p. blank j (omega arith)) ∙ ap (λ (j : ℕ). zeros (length s - j)) f in
          cc (
            spread (rows_from row_at s 0 i) (r ∷ rows_from row_at s i m) (zeros (length s - (n + 1) * w)),
            append_assoc (enc r) (words_of_rows enc (rows_from row_at s i m)) (zeros (length s - (n + 1) * w)),
          )

      -- The words after a row is put are the words of the rows after it is put: what a function that puts a row cites.
      -- It asks for the order of the rows, and that there is room for those that there are then.
      pub put-words : (key : A → ℕ) (gone : A → Bool) → ((i : ℕ) → key (row_at s i) ≡ key_at s w i) → Sorted s w n
          → length (put key gone r (rows_from row_at s 0 n)) * w ≤ length s
          → put_words w s n (enc r) (gone r) (place_of s w n (key r))
          ≡ words_of_rows enc (put key gone r (rows_from row_at s 0 n)) ++ zeros (length s - length (put key gone r (rows_from row_at s 0 n)) * w)
      put-words key gone key-is o room =
          rw (put_count_lem row_at key s w key-is gone r n o, put-place row_at key s w key-is gone r n o)
          (go (place_of s w n (key r)) (placed s w n (key r) o) (rw (put_count_lem row_at key s w key-is gone r n o) at room))
        where
          go : (p : Result ℕ ℕ) → Placed s w n (key r) p → put_count n (gone r) p * w ≤ length s
              → put_words w s n (enc r) (gone r) p ≡ words_of_rows enc (put_rows row_at key s w key-is gone r n p) ++ zeros (length s - put_count n (gone r) p * w)
          go (Ok i) h l = put-at (gone r) i h.0
          go (Err i) b l = put-gap (gone r) i b.hi-le l
