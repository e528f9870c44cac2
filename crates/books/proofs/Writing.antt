-- The figures of the books that lent words hold, and the words after a call wrote its part: good tables with some words written are the words of
-- the books with those figures. What an operation cites at its end.
use mathlib.Core.Path.{◌≡◌, refl, sym, ap, ◌∙◌}
use mathlib.Core.Bool.{Bool, true, not, cond}
use mathlib.Core.List.{List}
use Prim.Native.Nat.{ℕ, ◌+◌, ◌<◌}
use lib.Dec.{eqb}
use lib.IntN.{ℤ}
use lib.ListN.{get_or, set}
use mir.Syntax.{w64}
use mir.Val.{of_z}
use Rattle.rules.specs.Books.{StakeRow, OfferRow, settings, stake_at, offer_at, balance_of, unpaid_of, with_stakes, with_offers, with_settings}
use Rattle.rules.specs.declared.Account.{Account}
use Rattle.rules.specs.declared.Offer.{Offer}
use Rattle.books.specs.Layout.{stake_width, offer_width, pools, unpaid_words, admin_word, caller_word, paused_word, rate_word}
use Rattle.books.specs.Tables.{room_of, table_of, table_words}
use Rattle.books.specs.Words.{Tables, tables, stake_row_at, stake_words, offer_words, balance_in, unpaid_in, books_of, words_of, good_tables}
use Rattle.books.specs.inner.Held.{Fit, stake_for, offer_for}
use Rattle.books.proofs.Pools.{pool-cases}
use Rattle.books.proofs.Good.{good-back, same_tables}

-- ---- the figures as the code reads them

module _ (t : Tables) where
  pub balance-is : (pool : ℕ) → pool < pools → balance_in t.books pool ≡ balance_of (books_of t) pool
  unfolding books_of
  balance-is = pool-cases (λ (p : ℕ). balance_in t.books p ≡ balance_of (books_of t) p) refl refl refl refl

  pub unpaid-is : (pool : ℕ) → pool < pools → unpaid_in t.books pool ≡ unpaid_of (books_of t) pool
  unfolding books_of
  unpaid-is = pool-cases (λ (p : ℕ). unpaid_in t.books p ≡ unpaid_of (books_of t) p) refl refl refl refl

  pub admin-is : get_or t.books admin_word 0 ≡ (books_of t).settings.admin.0
  unfolding books_of
  admin-is = refl

  pub caller-is : get_or t.books caller_word 0 ≡ (books_of t).settings.caller.0
  unfolding books_of
  caller-is = refl

  pub paused-is : not (eqb (get_or t.books paused_word 0) 0) ≡ (books_of t).settings.paused
  unfolding books_of
  paused-is = refl

  pub rate-is : get_or t.books rate_word 0 ≡ (books_of t).settings.rate
  unfolding books_of
  rate-is = refl

  -- the stake rows
  pub stakes-are : (books_of t).stakes ≡ table_of stake_row_at stake_width t.stakes
  unfolding books_of
  stakes-are = refl

  -- a row as `read_stake` and `read_offer` answer it
  pub stake-is : (pool : ℕ) (account : Account) → stake_for pool account t.stakes ≡ stake_at (books_of t) pool account
  unfolding books_of
  stake-is pool account = refl

  pub offer-is : (pool : ℕ) (offer : Offer) → offer_for pool offer t.offers ≡ offer_at (books_of t) pool offer
  unfolding books_of
  offer-is pool offer = refl

  -- the rooms, in rows
  pub stake-room-is : room_of stake_width t.stakes ≡ (books_of t).rooms.stakes
  unfolding books_of
  stake-room-is = refl

  pub offer-room-is : room_of offer_width t.offers ≡ (books_of t).rooms.offers
  unfolding books_of
  offer-room-is = refl

-- ---- the words after a call

module _ (s o b : List ℕ) (g : good_tables (tables s o b) ≡ true) (fit-s : Fit s) (fit-b : Fit b) where
  -- the words as they would be written
  stakes-back : (words_of (books_of (tables s o b))).stakes ≡ s
  stakes-back = ap (λ (t : Tables). t.stakes) (good-back (tables s o b) g fit-s fit-b)

  offers-back : (words_of (books_of (tables s o b))).offers ≡ o
  offers-back = ap (λ (t : Tables). t.offers) (good-back (tables s o b) g fit-s fit-b)

  books-back : (words_of (books_of (tables s o b))).books ≡ b
  books-back = ap (λ (t : Tables). t.books) (good-back (tables s o b) g fit-s fit-b)

  -- a pool's balance
  balance-set : (rows : List StakeRow) (pool : ℕ) (v : ℤ) → pool < pools → set b pool (of_z w64 v) ≡ (words_of (with_stakes (books_of (tables s o b)) rows pool v)).books
  unfolding words_of books_of
  balance-set rows pool v h =
      ap (λ (l : List ℕ). set l pool (of_z w64 v)) (sym books-back)
      ∙ pool-cases (λ (p : ℕ). set (words_of (books_of (tables s o b))).books p (of_z w64 v) ≡ (words_of (with_stakes (books_of (tables s o b)) rows p v)).books) refl refl refl refl pool h

  -- a pool's unpaid sum
  unpaid-set : (rows : List OfferRow) (pool n : ℕ) → pool < pools → set b (unpaid_words + pool) n ≡ (words_of (with_offers (books_of (tables s o b)) rows pool n)).books
  unfolding words_of books_of
  unpaid-set rows pool n h =
      ap (λ (l : List ℕ). set l (unpaid_words + pool) n) (sym books-back)
      ∙ pool-cases (λ (p : ℕ). set (words_of (books_of (tables s o b))).books (unpaid_words + p) n ≡ (words_of (with_offers (books_of (tables s o b)) rows p n)).books) refl refl refl refl pool h

  -- stake rows and a balance: stake, withdraw, pay
  pub write-stakes : (rows : List StakeRow) (pool : ℕ) (v : ℤ) → pool < pools
      → tables (table_words stake_words stake_width (room_of stake_width s) rows) o (set b pool (of_z w64 v)) ≡ words_of (with_stakes (books_of (tables s o b)) rows pool v)
  unfolding words_of books_of
  write-stakes rows pool v p = same_tables refl (sym offers-back) (balance-set rows pool v p)

  -- offer rows and an unpaid sum: reserve
  pub write-offers : (rows : List OfferRow) (pool n : ℕ) → pool < pools
      → tables s (table_words offer_words offer_width (room_of offer_width o) rows) (set b (unpaid_words + pool) n) ≡ words_of (with_offers (books_of (tables s o b)) rows pool n)
  unfolding words_of books_of
  write-offers rows pool n p = same_tables (sym stakes-back) refl (unpaid-set rows pool n p)

  -- the settings: pause, unpause, payout caller
  pub write-paused : (p : Bool)
      → tables s o (set b paused_word (cond p 1 0))
      ≡ words_of (with_settings (books_of (tables s o b)) (books_of (tables s o b)).stakes (settings (books_of (tables s o b)).settings.admin (books_of (tables s o b)).settings.caller p (books_of (tables s o b)).settings.rate))
  unfolding words_of books_of
  write-paused p = same_tables (sym stakes-back) (sym offers-back) (ap (λ (l : List ℕ). set l paused_word (cond p 1 0)) (sym books-back))

  pub write-caller : (a : Account)
      → tables s o (set b caller_word a.0)
      ≡ words_of (with_settings (books_of (tables s o b)) (books_of (tables s o b)).stakes (settings (books_of (tables s o b)).settings.admin a (books_of (tables s o b)).settings.paused (books_of (tables s o b)).settings.rate))
  unfolding words_of books_of
  write-caller a = same_tables (sym stakes-back) (sym offers-back) (ap (λ (l : List ℕ). set l caller_word a.0) (sym books-back))

  -- stake rows and the rate: set rate
  pub write-rate : (rows : List StakeRow) (rate : ℕ)
      → tables (table_words stake_words stake_width (room_of stake_width s) rows) o (set b rate_word rate)
      ≡ words_of (with_settings (books_of (tables s o b)) rows (settings (books_of (tables s o b)).settings.admin (books_of (tables s o b)).settings.caller (books_of (tables s o b)).settings.paused rate))
  unfolding words_of books_of
  write-rate rows rate = same_tables refl (sym offers-back) (ap (λ (l : List ℕ). set l rate_word rate) (sym books-back))
