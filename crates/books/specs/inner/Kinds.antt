-- The two kinds of rows: what the rules have a row of a kind as, and how it lies in lent words.
use Rattle.std.specs.Prelude.{Bool, List, ℕ, ℤ, pos}
use Rattle.std.specs.Int.{w64}
use Rattle.std.proofs.Common.{to_z}
use Rattle.rules.specs.Books.{StakeRow, OfferRow, stake_key, stake_gone, offer_key, offer_gone}
use Rattle.rules.specs.Formed.{stake_test, offer_test, stake_in, cover_in}
use Rattle.rules.specs.inner.Facts.{StakeOk, OfferOk}
use Rattle.books.specs.Words.{stake_row_at, stake_words, offer_row_at, offer_words}

-- how rows of w words are read and written, their keys, which of them are gone, which are in order and the test of that, and what they add to the
-- sum of their pool, which is a word of the books
pub record Kind : Type 1 where
  pub Row : Type 0
  pub row_at : List ℕ → ℕ → Row
  -- the row of a number in a pool with nothing in it
  pub none : ℕ → ℕ → Row
  pub words : Row → List ℕ
  pub pool : Row → ℕ
  pub number : Row → ℕ
  pub key : Row → ℕ
  pub gone : Row → Bool
  pub Ok : Row → Type 0
  pub test : Row → Bool
  -- a row's part in the sum of a pool; the number that a word of such sums holds
  pub part : ℕ → Row → ℤ
  pub value : ℕ → ℤ

abbrev pub stake_kind : Kind
stake_kind = record {
  Row = StakeRow;
  row_at = stake_row_at;
  none = λ pool number. record { pool = pool; account = number; stake = pos 0; since = 0; accrual = 0 };
  words = stake_words;
  pool = λ r. r.pool;
  number = λ r. r.account;
  key = stake_key;
  gone = stake_gone;
  Ok = StakeOk;
  test = stake_test;
  part = stake_in;
  value = to_z w64;
}

abbrev pub offer_kind : Kind
offer_kind = record {
  Row = OfferRow;
  row_at = offer_row_at;
  none = λ pool number. record { pool = pool; offer = number; reserved = 0; paid = 0 };
  words = offer_words;
  pool = λ r. r.pool;
  number = λ r. r.offer;
  key = offer_key;
  gone = offer_gone;
  Ok = OfferOk;
  test = offer_test;
  part = cover_in;
  value = pos;
}
