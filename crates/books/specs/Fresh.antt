-- The lent lengths, and a fresh set on words.
use Rattle.std.specs.Prelude.{Bool, cond, List, [], ◌∷◌, ℕ, ◌*◌, eqb, length}
use Rattle.rules.specs.Limits.{is_number}
use Rattle.rules.specs.Table.{all}
use Rattle.rules.specs.declared.Account.{Account}
use Rattle.rules.specs.Answers.{Malformed, BadTables}
use Rattle.rules.specs.Books.{fresh, rooms_lent}
use Rattle.books.specs.Layout.{stake_width, offer_width, books_words}
use Rattle.books.specs.Tables.{room_of}
use Rattle.books.specs.Words.{Tables, words_of}
pub use Rattle.books.specs.Words.{rooms_of}

-- so many words are whole rows
abbrev pub whole_rows : ℕ → List ℕ → Bool
whole_rows width s = eqb (room_of width s * width) (length s)

-- the lent lengths: whole rows, "1 to 1,024 stake rows", "1 to 512 offer rows", and the books' own words
unfoldable pub lent : Tables → Bool
lent t = all (whole_rows stake_width t.stakes ∷ whole_rows offer_width t.offers ∷ eqb (length t.books) books_words ∷ rooms_lent (rooms_of t) ∷ [])

-- a code, and the words after it
pub record Renewed : Type 0 where
  pub code : ℕ
  pub tables : Tables

abbrev pub renewed : ℕ → Tables → Renewed
renewed code t = record { code = code; tables = t }

-- "A fresh set clears every row and figure, with the given admin"; "with admin 0 it is refused 1; lent lengths outside the limits are refused 2",
-- and a refused set leaves every bit
unfoldable pub fresh_words : Tables → Account → Renewed
fresh_words t admin =
    cond (is_number admin.0) (cond (lent t) (renewed 0 (words_of (fresh admin (rooms_of t)))) (renewed BadTables t)) (renewed Malformed t)
