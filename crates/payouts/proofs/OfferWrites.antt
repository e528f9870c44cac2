-- An offer's row found and written, on good tables.
use mathlib.Core.Path.{◌≡◌, ap, ap₂, ◌∙◌, subst⁻¹}
use mathlib.Core.Bool.{true}
use mathlib.Core.List.{List}
use Prim.Native.Nat.{ℕ, ◌+◌, ◌≤◌, ◌<◌}
use native.Mathlib.Omega.{arith}
use lib.ListN.{set}
use Rattle.rules.specs.Limits.{flat}
use Rattle.rules.specs.Books.{OfferRow, offer_at, put_offer, unpaid_of}
use Rattle.rules.specs.declared.Offer.{Offer}
use Rattle.books.specs.Layout.{unpaid_words, pools}
use Rattle.books.specs.Words.{Tables, tables, books_of, words_of, good_tables}
use Rattle.books.specs.inner.Held.{Fit, HeldOffers, CanPutOffer, OfferPut, offer_of}
use Rattle.books.proofs.Good.{good-read, offers-held}
use Rattle.books.proofs.Writing.{write-offers, unpaid-is}
use Rattle.payouts.specs.declared.offer.OfferState.{OfferState}
use Rattle.payouts.specs.inner.Offers.{Searchable, found_in, state_of, CanWriteOffer, offer_written}

-- what is found, in the books that the words hold
pub found-is : (t : Tables) (pool : ℕ) (offer : Offer) → pool < pools → found_in t.offers t.books pool offer ≡ state_of t (offer_at (books_of t) pool offer) (unpaid_of (books_of t) pool)
unfolding books_of
found-is t pool offer h = ap (state_of t (offer_at (books_of t) pool offer)) (unpaid-is t pool h)

pub searchable : (s o b : List ℕ) → good_tables (tables s o b) ≡ true → (pool : ℕ) → pool ≤ flat → Searchable o b pool
searchable s o b g pool h =
    let t = tables s o b in
    record { tidy-is = (good-read t g).offers-tidy; held = offers-held t g; pool-is = omega (arith, h) }

module _ (s o b : List ℕ) (w : OfferState) (h : CanWriteOffer (tables s o b) w) where
  abbrev t : Tables
  t = tables s o b

  abbrev r : OfferRow
  r = offer_of w.row

  pub can-put : CanPutOffer r o w.used
  unfolding books_of
  can-put = record {
    held = subst⁻¹ (HeldOffers o) h.used-is (offers-held t h.good);
    some = let p = h.fine.number.some in omega arith;
    fine = λ g. h.fine;
    room = h.room;
  }

  pub row-written : (o' b' : List ℕ) (n : ℕ) → Fit s → Fit b → OfferPut r o o' n → b' ≡ set b (unpaid_words + r.pool) w.unpaid → tables s o' b' ≡ words_of (offer_written (books_of t) w)
  unfolding books_of
  row-written o' b' n fs fb p e =
      ap₂ (λ (x y : List ℕ). tables s x y) p.words e
      ∙ write-offers s o b h.good fs fb (put_offer (books_of t) r) r.pool w.unpaid (let q = h.fine.pool in omega arith)
