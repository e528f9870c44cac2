-- What the functions that read and put rows ask and say, in the rows of the rules: `Held` of a table that lies in the words, `CanPut` of a row
-- that may be put, `PutDone` of the words after it.
use Rattle.std.specs.Prelude.{◌≡◌, false, List, ℕ, ◌*◌, ◌^◌, ◌≤◌, ◌<◌, length, get_or}
use Rattle.std.specs.Int.{w64}
use Rattle.std.proofs.Common.{to_z}
use Rattle.rows.specs.Rows.{Sorted}
use Rattle.rows.specs.inner.Order.{Blank}
use Rattle.rules.specs.Table.{key_of, find, put}
use Rattle.rules.specs.Books.{StakeRow, OfferRow, stake_key, no_stake, offer_key, no_offer}
use Rattle.rules.specs.declared.Account.{Account}
use Rattle.rules.specs.declared.Offer.{Offer}
use Rattle.rules.specs.inner.Facts.{Rows}
use Rattle.books.specs.Layout.{stake_width, offer_width}
use Rattle.books.specs.Tables.{room_of, used_of, table_of, table_words}
use Rattle.books.specs.Words.{stake_row_at, offer_row_at}
use Rattle.books.specs.inner.Kinds.{Kind, stake_kind, offer_kind}
use Rattle.books.specs.declared.stakes.Stake.{Stake}
use Rattle.books.specs.declared.offers.OfferLine.{OfferLine}

-- each word is a machine's
abbrev pub Fit : List ℕ → Type 0
Fit s = (j : ℕ) → get_or s j 0 < 2 ^ 64

-- s is a table of whole rows with n used rows: they ascend, and the words after them are 0
pub record Table (w : ℕ) (s : List ℕ) (n : ℕ) : Type 0 where
  pub even : room_of w s * w ≡ length s
  pub used : used_of w s ≡ n
  pub fits : n * w ≤ length s
  pub sorted : Sorted s w n
  pub blank : Blank s (n * w)

module _ (k : Kind) (w : ℕ) where
  -- the words hold n rows, each in order
  pub record Held (s : List ℕ) (n : ℕ) : Type 0 where
    pub table : Table w s n
    pub rows : Rows k.key k.Ok 0 (table_of k.row_at w s)

  -- the row of a key, or d where there is none
  abbrev pub row_for : k.Row → ℕ → List ℕ → k.Row
  row_for d key s = find k.key d key (table_of k.row_at w s)

  -- the rows of s with a row put
  abbrev pub with_row : k.Row → List ℕ → List k.Row
  with_row row s = put k.key k.gone row (table_of k.row_at w s)

  -- a row that may be put: a row in order, or one to be taken out, with room for the rows that there are then
  pub record CanPut (row : k.Row) (s : List ℕ) (n : ℕ) : Type 0 where
    pub held : Held s n
    pub some : 0 < k.key row
    pub fine : k.gone row ≡ false → k.Ok row
    pub room : length (with_row row s) ≤ room_of w s

  -- the words t after it was put into s: they hold r rows, which are those of s with the row put
  pub record PutDone (row : k.Row) (s t : List ℕ) (r : ℕ) : Type 0 where
    pub rows : table_of k.row_at w t ≡ with_row row s
    pub held : Held t r
    pub words : t ≡ table_words k.words w (room_of w s) (with_row row s)
    pub rooms : room_of w t ≡ room_of w s

-- ---- stakes

-- the row that a value is
abbrev pub stake_of : Stake → StakeRow
stake_of r = record { pool = r.pool; account = r.account; stake = to_z w64 r.stake; since = r.since; accrual = r.accrual }

-- an account's row in a pool, empty where it has none: `stake_at` of the rules, at the books that the words hold
abbrev pub stake_for : ℕ → Account → List ℕ → StakeRow
stake_for pool account s = find stake_key (no_stake pool account) (key_of pool account.0) (table_of stake_row_at stake_width s)

abbrev pub HeldStakes : List ℕ → ℕ → Type 0
HeldStakes s n = Held stake_kind stake_width s n

abbrev pub CanPutStake : StakeRow → List ℕ → ℕ → Type 0
CanPutStake row s n = CanPut stake_kind stake_width row s n

abbrev pub StakePut : StakeRow → List ℕ → List ℕ → ℕ → Type 0
StakePut row s t r = PutDone stake_kind stake_width row s t r

-- ---- offers, alike

abbrev pub offer_of : OfferLine → OfferRow
offer_of r = record { pool = r.pool; offer = r.offer; reserved = r.reserved; paid = r.paid }

abbrev pub offer_for : ℕ → Offer → List ℕ → OfferRow
offer_for pool offer s = find offer_key (no_offer pool offer) (key_of pool offer.0) (table_of offer_row_at offer_width s)

abbrev pub HeldOffers : List ℕ → ℕ → Type 0
HeldOffers s n = Held offer_kind offer_width s n

abbrev pub CanPutOffer : OfferRow → List ℕ → ℕ → Type 0
CanPutOffer row s n = CanPut offer_kind offer_width row s n

abbrev pub OfferPut : OfferRow → List ℕ → List ℕ → ℕ → Type 0
OfferPut row s t r = PutDone offer_kind offer_width row s t r
