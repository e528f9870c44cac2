-- Rows in order, used and unused, as contracts of search and tests say it.
use Rattle.std.specs.Prelude.{◌≡◌, ◌≢◌, List, ℕ, ◌*◌, ◌/◌, ◌≤◌, ◌<◌, get_or, length}
use Rattle.rows.specs.Rows.{pool_word, number_word, word, key_of}

-- the key of a row by itself
abbrev pub key_of_row : List ℕ → ℕ
key_of_row row = key_of (get_or row pool_word 0) (get_or row number_word 0)

-- every word from index `from` on is 0
abbrev pub Blank : List ℕ → ℕ → Type 0
Blank s from = (j : ℕ) → from ≤ j → get_or s j 0 ≡ 0

-- n is the number of leading used rows: each row below n is used, and row n, if the table has one, is not
pub record Used (s : List ℕ) (w n : ℕ) : Type 0 where
  pub fits : n * w ≤ length s
  pub used : (i : ℕ) → i < n → word s w i number_word ≢ 0
  pub stop : n < length s / w → word s w n number_word ≡ 0

-- the used rows come first: after the leading ones no row is used
pub record Packed (s : List ℕ) (w : ℕ) : Type 0 where
  pub rows : ℕ
  pub fits : rows * w ≤ length s
  pub used : (i : ℕ) → i < rows → word s w i number_word ≢ 0
  pub unused : (i : ℕ) → rows ≤ i → i < length s / w → word s w i number_word ≡ 0
