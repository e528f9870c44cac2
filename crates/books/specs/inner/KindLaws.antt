-- What holds of a kind of rows of w words: what generic code on rows of any kind rests on.
use Rattle.std.specs.Prelude.{◌≡◌, true, ◌≢◌, List, ◌++◌, ℕ, ◌+◌, ◌*◌, ◌≤◌, ◌<◌, pos, length, take, drop}
use Rattle.whole.specs.Whole.{Within}
use Rattle.rows.specs.Rows.{word, key_of, key_at}
use Rattle.rows.specs.inner.Order.{key_of_row}
use Rattle.rules.specs.Limits.{limit}
use Rattle.books.specs.Layout.{pools, number_word}
use Rattle.books.specs.inner.Held.{Fit}
use Rattle.books.specs.inner.Kinds.{Kind}

pub record KindLaws (k : Kind) (w : ℕ) : Type 0 where
  -- a row has from 2 to 8 words
  pub wide : 1 < w
  pub narrow : w ≤ 8
  pub length_is : (r : k.Row) → length (k.words r) ≡ w
  pub key_is : (r : k.Row) → k.key r ≡ key_of (k.pool r) (k.number r)
  -- the key of a row, and its number, are those of its words
  pub key_words : (r : k.Row) → key_of_row (k.words r) ≡ k.key r
  pub key_read : (s : List ℕ) (i : ℕ) → k.key (k.row_at s i) ≡ key_at s w i
  pub number_read : (s : List ℕ) (i : ℕ) → k.number (k.row_at s i) ≡ word s w i number_word
  -- a row read and written again is its words
  pub same : (s : List ℕ) → Fit s → (i : ℕ) → i * w + w ≤ length s → k.words (k.row_at s i) ≡ take w (drop (i * w) s)
  -- a row in order, written and read back
  pub back : (p t : List ℕ) (i : ℕ) (r : k.Row) → k.Ok r → length p ≡ i * w → (k.row_at (p ++ (k.words r ++ t)) i ≡ r) × (word (p ++ (k.words r ++ t)) w i number_word ≢ 0)
  -- a row that passes the test is of a pool, and its part is within the limit
  pub pooled : (r : k.Row) → k.test r ≡ true → k.pool r < pools
  pub small : (r : k.Row) → k.test r ≡ true → Within limit (k.part (k.pool r) r)
  -- it has no part in the sum of another pool, and a word of 0 is no sum
  pub elsewhere : (r : k.Row) (pool : ℕ) → pool ≢ k.pool r → k.part pool r ≡ pos 0
  pub none : k.value 0 ≡ pos 0
