-- An offer's row as it is found, and as it is written with its pool's unpaid sum.
use Rattle.std.specs.Prelude.{◌≡◌, true, List, ℕ, ◌≤◌, ◌<◌, length}
use Rattle.rules.specs.Books.{Books, OfferRow, put_offer, with_offers}
use Rattle.rules.specs.declared.Offer.{Offer}
use Rattle.rules.specs.inner.Facts.{OfferOk}
use Rattle.books.specs.Layout.{offer_width, pools}
use Rattle.books.specs.Tables.{used_of, tidy}
use Rattle.books.specs.Words.{Tables, unpaid_in, books_of, good_tables}
use Rattle.books.specs.inner.Held.{HeldOffers, offer_of, offer_for}
use Rattle.books.specs.declared.offers.OfferLine.{OfferLine}
use Rattle.payouts.specs.declared.offer.OfferState.{OfferState}
use Rattle.payouts.specs.declared.offer.OfferChange.{OfferChange}

-- a table of offers in which a row can be found, and books with the unpaid sum of its pool
pub record Searchable (offers books : List ℕ) (pool : ℕ) : Type 0 where
  pub tidy-is : tidy offer_width offers ≡ true
  pub held : HeldOffers offers (used_of offer_width offers)
  pub pool-is : pool < pools

-- a row as a value
abbrev pub offer_line : OfferRow → OfferLine
offer_line r = record { pool = r.pool; offer = r.offer; reserved = r.reserved; paid = r.paid }

abbrev pub found_in : List ℕ → List ℕ → ℕ → Offer → OfferState
found_in offers books pool offer = record { used = used_of offer_width offers; row = offer_line (offer_for pool offer offers); unpaid = unpaid_in books pool }

abbrev pub state_of : Tables → OfferRow → ℕ → OfferState
state_of t r unpaid = record { used = used_of offer_width t.offers; row = offer_line r; unpaid = unpaid }

abbrev pub change_of : Tables → ℕ → OfferRow → ℕ → OfferChange
change_of t n r unpaid = record { amount = n; offer = state_of t r unpaid }

-- a row that may be written
pub record CanWriteOffer (t : Tables) (w : OfferState) : Type 0 where
  pub good : good_tables t ≡ true
  pub used-is : w.used ≡ used_of offer_width t.offers
  pub fine : OfferOk (offer_of w.row)
  pub room : length (put_offer (books_of t) (offer_of w.row)) ≤ (books_of t).rooms.offers

-- the books after it
abbrev pub offer_written : Books → OfferState → Books
offer_written b w = with_offers b (put_offer b (offer_of w.row)) w.row.pool w.unpaid
