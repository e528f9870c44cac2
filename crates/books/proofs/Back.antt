-- Rows written as words and read back are the rows, and the words are a table in order: what a caller cites after it put rows.
use mathlib.Core.Path.{◌≡◌, refl, sym, ap, ap₂, ◌∙◌, subst, subst⁻¹}
use mathlib.Core.Logic.{◌≢◌, ⊎_elim}
use mathlib.Core.List.{List, [], ◌∷◌, ◌++◌, append_assoc}
use Prim.Native.Nat.{ℕ, zero, suc, ◌+◌, ◌-◌, ◌*◌, ◌/◌, ◌≤◌, ◌<◌}
use native.Mathlib.Nat.{zero-add, suc-add, mul-le-mul_right, mul-div_cancel}
use native.Mathlib.Omega.{arith}
use lib.ListN.{length, get_or, length-append, length-replicate, get_or-replicate, get_or-eq_default}
use lib.Seq.{get_or-append-add}
use borrow.Author.Tests.{eq-eqb, ne_eqb}
use Rattle.rows.specs.Rows.{zeros, word, key_at}
use Rattle.rows.proofs.Order.{lt-or-le, le-cases}
use Rattle.rules.specs.inner.Facts.{Rows}
use Rattle.books.specs.Layout.{number_word}
use Rattle.books.specs.Tables.{rows_from, used_from, words_of_rows, table_words, room_of, table_of}
use Rattle.books.specs.inner.Kinds.{Kind}
use Rattle.books.specs.inner.KindLaws.{KindLaws}
use Rattle.books.specs.inner.Held.{Table}
use Rattle.books.proofs.Flat.{flat-length}

-- ---- rows in order are a sorted table

module _ (k : Kind) (w : ℕ) (laws : KindLaws k w) (s : List ℕ) where
  rows_above : (low i n : ℕ) → Rows k.key k.Ok low (rows_from k.row_at s i n) → (a : ℕ) → i ≤ a → a < i + n → low < key_at s w a
  unfolding rows_from
  rows_above low i zero h a p q = absurd (omega arith)
  rows_above low i (suc n) h a p q = ⊎_elim (λ e. omega (arith, h.0, laws.key_read s i, ap (key_at s w) e)) (λ l. omega (arith, h.0, rows_above (k.key (k.row_at s i)) (suc i) n h.2 a (omega arith) (omega arith))) (le-cases i a p)

  pub rows-sorted : (low i n : ℕ) → Rows k.key k.Ok low (rows_from k.row_at s i n) → (a b : ℕ) → i ≤ a → a < b → b < i + n → key_at s w a < key_at s w b
  unfolding rows_from
  rows-sorted low i zero h a b p q r = absurd (omega arith)
  rows-sorted low i (suc n) h a b p q r = ⊎_elim (λ e. omega (arith, laws.key_read s i, ap (key_at s w) e, rows_above (k.key (k.row_at s i)) (suc i) n h.2 b (omega arith) (omega arith))) (λ l. rows-sorted (k.key (k.row_at s i)) (suc i) n h.2 a b (omega arith) q (omega arith)) (le-cases i a p)

-- each of them is in order
pub rows_ok : (k : Kind) (s : List ℕ) (low i n : ℕ) → Rows k.key k.Ok low (rows_from k.row_at s i n) → (j : ℕ) → i ≤ j → j < i + n → k.Ok (k.row_at s j)
unfolding rows_from
rows_ok k s low i zero h j p q = absurd (omega arith)
rows_ok k s low i (suc n) h j p q =
    ⊎_elim (λ e. subst (λ (m : ℕ). k.Ok (k.row_at s m)) e h.1) (λ l. rows_ok k s (k.key (k.row_at s i)) (suc i) n h.2 j (omega arith) (omega arith)) (le-cases i j p)

-- ---- words after the rows

pub zeros-length : (z : ℕ) → length (zeros z) ≡ z
zeros-length z = length-replicate z 0

pub zero_word : (p : List ℕ) (z k : ℕ) → get_or (p ++ zeros z) (length p + k) 0 ≡ 0
zero_word p z k = get_or-append-add p (zeros z) k 0 ∙ ⊎_elim (λ l. get_or-replicate z k 0 0 l) (λ l. get_or-eq_default (zeros z) 0 (omega (arith, zeros-length z))) (lt-or-le k z)

none-used : (p : List ℕ) (w z i m : ℕ) → length p ≡ i * w → used_from w (p ++ zeros z) i m ≡ 0
unfolding used_from
none-used p w z i zero h = refl
none-used p w z i (suc m) h =
    let e : word (p ++ zeros z) w i number_word ≡ 0 = ap (λ (k : ℕ). get_or (p ++ zeros z) (k + 1) 0) (sym h) ∙ zero_word p z 1 in
    rw (eq-eqb (word (p ++ zeros z) w i number_word) 0 e)

-- ---- rows whose words can be read back

module _ (k : Kind) (w : ℕ) (laws : KindLaws k w) where
  next : (p : List ℕ) (i : ℕ) (r : k.Row) → length p ≡ i * w → length (p ++ k.words r) ≡ suc i * w
  next p i r h = omega (arith, length-append p (k.words r), laws.length_is r)

  shift : (p t : List ℕ) (r : k.Row) (rows : List k.Row) → p ++ (words_of_rows k.words (r ∷ rows) ++ t) ≡ p ++ k.words r ++ (words_of_rows k.words rows ++ t)
  unfolding words_of_rows
  shift p t r rows = simp append_assoc

  rows_back : (low : ℕ) (rows : List k.Row) → Rows k.key k.Ok low rows → (p t : List ℕ) (i : ℕ) → length p ≡ i * w → rows_from k.row_at (p ++ (words_of_rows k.words rows ++ t)) i (length rows) ≡ rows
  unfolding rows_from
  rows_back low [] o p t i h = refl
  rows_back low (r ∷ rows) o p t i h =
      let e : p ++ (words_of_rows k.words (r ∷ rows) ++ t) ≡ p ++ k.words r ++ (words_of_rows k.words rows ++ t) = shift p t r rows in
      let f : p ++ k.words r ++ (words_of_rows k.words rows ++ t) ≡ p ++ (k.words r ++ (words_of_rows k.words rows ++ t)) = append_assoc p (k.words r) (words_of_rows k.words rows ++ t) in
      ap₂ (λ (x : k.Row) (l : List k.Row). x ∷ l)
      (ap (λ (s : List ℕ). k.row_at s i) (e ∙ f) ∙ (laws.back p (words_of_rows k.words rows ++ t) i r o.1 h).0)
      (ap (λ (s : List ℕ). rows_from k.row_at s (suc i) (length rows)) e ∙ rows_back (k.key r) rows o.2 (p ++ k.words r) t (suc i) (next p i r h))

  used-back : (low : ℕ) (rows : List k.Row) → Rows k.key k.Ok low rows → (p : List ℕ) (z i m : ℕ) → length p ≡ i * w → used_from w (p ++ (words_of_rows k.words rows ++ zeros z)) i (length rows + m) ≡ length rows
  unfolding used_from words_of_rows
  used-back low [] o p z i m h = ap (used_from w (p ++ zeros z) i) (zero-add m) ∙ none-used p w z i m h
  used-back low (r ∷ rows) o p z i m h =
      let s : List ℕ = p ++ (words_of_rows k.words (r ∷ rows) ++ zeros z) in
      let e : s ≡ p ++ k.words r ++ (words_of_rows k.words rows ++ zeros z) = shift p (zeros z) r rows in
      let f : s ≡ p ++ (k.words r ++ (words_of_rows k.words rows ++ zeros z)) = e ∙ append_assoc p (k.words r) (words_of_rows k.words rows ++ zeros z) in
      let g : word s w i number_word ≢ 0 = subst⁻¹ (λ (l : List ℕ). word l w i number_word ≢ 0) f (laws.back p (words_of_rows k.words rows ++ zeros z) i r o.1 h).1 in
      ap (used_from w s i) (suc-add (length rows) m)
      ∙ rw (ne_eqb (word s w i number_word) 0 g)
      (ap suc (ap (λ (l : List ℕ). used_from w l (suc i) (length rows + m)) e ∙ used-back (k.key r) rows o.2 (p ++ k.words r) z (suc i) m (next p i r h)))

  -- rows in order, written into a room, are a table that reads as these rows
  pub record Written (room : ℕ) (rows : List k.Row) : Type 0 where
    pub table : Table w (table_words k.words w room rows) (length rows)
    pub reads : table_of k.row_at w (table_words k.words w room rows) ≡ rows
    pub rooms : room_of w (table_words k.words w room rows) ≡ room

  pub written : (room : ℕ) (rows : List k.Row) → Rows k.key k.Ok 0 rows → length rows ≤ room → Written room rows
  written room rows o h =
      let pos : 0 < w = omega (arith, laws.wide) in
      let s : List ℕ = table_words k.words w room rows in
      let n : ℕ = length rows in
      let z : ℕ = room * w - n * w in
      let q : n * w ≤ room * w = mul-le-mul_right w h in
      let fl : length (words_of_rows k.words rows) ≡ n * w = flat-length k.words w laws.length_is rows in
      let len : length s ≡ room * w = omega (arith, length-append (words_of_rows k.words rows) (zeros z), zeros-length z) in
      let rooms : room_of w s ≡ room = ap (λ (m : ℕ). m / w) len ∙ mul-div_cancel room pos in
      let e : room ≡ n + (room - n) = omega arith in
      let used : used_from w s 0 room ≡ n = ap (used_from w s 0) e ∙ used-back 0 rows o [] z 0 (room - n) (omega arith) in
      let reads : rows_from k.row_at s 0 n ≡ rows = rows_back 0 rows o [] (zeros z) 0 (omega (arith)) in
      record {
        table = record {
          even = ap (λ (m : ℕ). m * w) rooms ∙ sym len;
          used = ap (used_from w s 0) rooms ∙ used;
          fits = omega arith;
          sorted = λ a b l m. rows-sorted k w laws s 0 0 n (subst⁻¹ (Rows k.key k.Ok 0) reads o) a b (omega arith) l (omega arith);
          blank = λ j l. let f : j ≡ length (words_of_rows k.words rows) + (j - n * w) = omega arith in ap (λ (m : ℕ). get_or s m 0) f ∙ zero_word (words_of_rows k.words rows) z (j - n * w);
        };
        reads = ap (rows_from k.row_at s 0) (ap (used_from w s 0) rooms ∙ used) ∙ reads;
        rooms = rooms;
      }
