-- Rows of some width in lent words: how they are read as rows of a type A, and how such rows are written as words. A row whose number,
-- word 1, is 0 is not used.
use Rattle.std.specs.Prelude.{Bool, cond, ◌&&◌, List, [], ◌∷◌, ◌++◌, ℕ, zero, suc, ◌-◌, ◌*◌, ◌/◌, eqb, length, drop}
use Rattle.rows.specs.Rows.{word, zeros, all_zero}
use Rattle.books.specs.Layout.{number_word}

-- how many rows were lent
abbrev pub room_of : ℕ → List ℕ → ℕ
room_of width s = length s / width

-- how many of the n rows from row i on are used before the first that is not
unfoldable pub used_from : ℕ → List ℕ → ℕ → ℕ → ℕ
used_from width s i zero = 0
used_from width s i (suc n) = cond (eqb (word s width i number_word) 0) 0 (suc (used_from width s (suc i) n))

abbrev pub used_of : ℕ → List ℕ → ℕ
used_of width s = used_from width s 0 (room_of width s)

-- the n rows from row i on
unfoldable pub rows_from : {A : Type 0} → (List ℕ → ℕ → A) → List ℕ → ℕ → ℕ → List A
rows_from row_at s i zero = []
rows_from row_at s i (suc n) = row_at s i ∷ rows_from row_at s (suc i) n

-- the used rows of a table
abbrev pub table_of : {A : Type 0} → (List ℕ → ℕ → A) → ℕ → List ℕ → List A
table_of row_at width s = rows_from row_at s 0 (used_of width s)

-- rows as words, one after the other
unfoldable pub words_of_rows : {A : Type 0} → (A → List ℕ) → List A → List ℕ
words_of_rows words [] = []
words_of_rows words (r ∷ rows) = words r ++ words_of_rows words rows

-- and then zeros up to the room's end: "unused rows all zero"
abbrev pub table_words : {A : Type 0} → (A → List ℕ) → ℕ → ℕ → List A → List ℕ
table_words words width room rows = words_of_rows words rows ++ zeros (room * width - length rows * width)

-- whole rows, "used rows first": every word after the used rows is 0
abbrev pub tidy : ℕ → List ℕ → Bool
tidy width s = eqb (room_of width s * width) (length s) && all_zero (drop (used_of width s * width) s)
