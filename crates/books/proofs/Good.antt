-- Good tables: the books that they hold are well formed, and the words of these books are the tables; and the words of well-formed books are
-- good tables that hold these books.
use mathlib.Core.Path.{◌≡◌, refl, sym, ap, ◌∙◌}
use mathlib.Core.Bool.{Bool, true, false, not, cond}
use mathlib.Core.List.{List, [], ◌∷◌, ◌++◌}
use Prim.Native.Nat.{ℕ, zero, suc, ◌+◌, ◌*◌, ◌≤◌, ◌<◌}
use native.Mathlib.Omega.{arith}
use lib.Dec.{eqb}
use lib.ListN.{length, get_or, drop, drop_of_length-le}
use lib.Seq.{drop-cons}
use mir.Syntax.{w64}
use mir.Val.{to_z, of_z}
use borrow.Author.Tests.{eqb-true, eq-eqb, le-leb, leb-true}
use Rattle.whole.specs.Whole.{Within}
use Rattle.whole.proofs.Linear.{whole}
use Rattle.whole.proofs.Words.{word_back, number-back}
use Rattle.rules.specs.Limits.{limit, most_stakes, most_offers}
use Rattle.rules.specs.Books.{Books, Pool, StakeRow, OfferRow, no_figures, books, settings, stake_key, offer_key, balance_of, unpaid_of}
use Rattle.rules.proofs.Conditions.{refuted}
use Rattle.rules.proofs.Tests.{nth, held}
use Rattle.rules.specs.inner.Facts.{Rows, StakeOk, OfferOk, WellFormed}
use Rattle.rules.proofs.Decided.{formed-read, formed-made}
use Rattle.rules.proofs.Bounds.{balance-most, unpaid-most}
use Rattle.books.specs.Layout.{stake_width, offer_width, pools, each_pool, books_words, admin_word, caller_word, paused_word, rate_word}
use Rattle.books.specs.Tables.{used_of, table_of, tidy}
use Rattle.books.specs.Words.{Tables, tables, stake_row_at, offer_row_at, unpaid_in, books_of, words_of, good_tables}
use Rattle.books.specs.inner.Kinds.{Kind, stake_kind, offer_kind}
use Rattle.books.specs.inner.KindLaws.{KindLaws}
use Rattle.books.specs.inner.Held.{Fit, Table, Held, HeldStakes, HeldOffers}
use Rattle.books.proofs.Back.{rows-sorted, Written, written}
use Rattle.books.proofs.Counts.{used-fits, tidy-read, tidy-made}
use Rattle.books.proofs.RowKinds.{words-held}
use Rattle.books.specs.inner.StakeLaws as stakes
use Rattle.books.specs.inner.StakeLaws.{stake_laws}
use Rattle.books.specs.inner.OfferLaws as offers
use Rattle.books.specs.inner.OfferLaws.{offer_laws}

-- ---- what the test says, part by part

pub record Good (t : Tables) : Type 0 where
  pub stakes-tidy : tidy stake_width t.stakes ≡ true
  pub offers-tidy : tidy offer_width t.offers ≡ true
  pub sized : length t.books ≡ books_words
  pub flag : get_or t.books paused_word 0 ≤ 1
  pub formed : WellFormed (books_of t)

pub good-read : (t : Tables) → good_tables t ≡ true → Good t
unfolding good_tables
good-read t e =
    let p = nth _ e in
    record {
      stakes-tidy = p 0;
      offers-tidy = p 1;
      sized = eqb-true (length t.books) books_words (p 2);
      flag = leb-true (get_or t.books paused_word 0) 1 (p 3);
      formed = formed-read (books_of t) (p 4);
    }

pub good-made : (t : Tables) → Good t → good_tables t ≡ true
unfolding good_tables
good-made t g =
    held _ (g.stakes-tidy, (g.offers-tidy, (eq-eqb (length t.books) books_words g.sized, (le-leb (get_or t.books paused_word 0) 1 g.flag, (formed-made (books_of t) g.formed, tt)))))

-- books of another length are not good
pub not-sized : (t : Tables) → (length t.books ≡ books_words → ⊥) → good_tables t ≡ false
not-sized t n = sym (refuted (good_tables t) (λ g. n (good-read t g).sized))

-- ---- both tables lie in the words, in order

table-tidy : (w : ℕ) (s : List ℕ) (n : ℕ) → Table w s n → tidy w s ≡ true
table-tidy w s n t = tidy-made w s (record { even = t.even; blank = rw t.used t.blank })

rows-held : (k : Kind) (w : ℕ) → KindLaws k w → (s : List ℕ) → Rows k.key k.Ok 0 (table_of k.row_at w s) → tidy w s ≡ true → Held k w s (used_of w s)
rows-held k w laws s o e =
    let t = tidy-read w s e in
    record {
      table = record {
        even = t.even;
        used = refl;
        fits = used-fits w s;
        sorted = λ i j l m. rows-sorted k w laws s 0 0 (used_of w s) o i j (omega arith) l (omega arith);
        blank = t.blank;
      };
      rows = o;
    }

module _ (t : Tables) (g : good_tables t ≡ true) where
  pub good-formed : WellFormed (books_of t)
  good-formed = (good-read t g).formed

  stake-rows : Rows stake_key StakeOk 0 (table_of stake_row_at stake_width t.stakes)
  unfolding books_of
  stake-rows = good-formed.stake-rows

  offer-rows : Rows offer_key OfferOk 0 (table_of offer_row_at offer_width t.offers)
  unfolding books_of
  offer-rows = good-formed.offer-rows

  pub stakes-held : HeldStakes t.stakes (used_of stake_width t.stakes)
  stakes-held = rows-held stake_kind stake_width stake_laws t.stakes stake-rows (good-read t g).stakes-tidy

  pub offers-held : HeldOffers t.offers (used_of offer_width t.offers)
  offers-held = rows-held offer_kind offer_width offer_laws t.offers offer-rows (good-read t g).offers-tidy

  -- |balance| is at most 1,024 limits, and an unpaid sum at most 512
  pub good-balance : (pool : ℕ) → pool < pools → Within (most_stakes * limit) (balance_of (books_of t) pool)
  good-balance pool h = balance-most (books_of t) good-formed pool h

  pub good-unpaid : (pool : ℕ) → pool < pools → unpaid_of (books_of t) pool ≤ most_offers * limit
  good-unpaid pool h = unpaid-most (books_of t) good-formed pool h

-- ---- the words of the books

from : List ℕ → ℕ → ℕ → List ℕ
from l i zero = []
from l i (suc n) = get_or l i 0 ∷ from l (suc i) n

from_is : (l : List ℕ) (i n : ℕ) → i + n ≡ length l → drop i l ≡ from l i n
unfolding from
from_is l i zero h = drop_of_length-le l {i = i} (omega arith)
from_is l i (suc n) h = drop-cons l i 0 (omega arith) ∙ ap (λ (r : List ℕ). get_or l i 0 ∷ r) (from_is l (suc i) n (omega arith))

all_words : (l : List ℕ) → length l ≡ books_words
    → each_pool (λ p. get_or l p 0) ++ each_pool (unpaid_in l) ++ (get_or l admin_word 0 ∷ get_or l caller_word 0 ∷ get_or l paused_word 0 ∷ get_or l rate_word 0 ∷ []) ≡ l
unfolding from
all_words l h = sym (from_is l 0 books_words (sym h))

flag-back : (p : ℕ) → p ≤ 1 → cond (not (eqb p 0)) 1 0 ≡ p
flag-back zero h = refl
flag-back (suc zero) h = refl
flag-back (suc (suc p)) h = absurd (omega arith)

-- ---- the words of the books that good tables hold are the tables

-- tables of equal words
pub same_tables : {s s' o o' b b' : List ℕ} → s ≡ s' → o ≡ o' → b ≡ b' → tables s o b ≡ tables s' o' b'
same_tables e f g = cc

module _ (t : Tables) (g : good_tables t ≡ true) (fit-s : Fit t.stakes) (fit-b : Fit t.books) where
  -- of words that a machine holds
  balance-back : (i : ℕ) → of_z w64 (to_z w64 (get_or t.books i 0)) ≡ get_or t.books i 0
  balance-back i = word_back (get_or t.books i 0) (fit-b i)

  pub good-back : words_of (books_of t) ≡ t
  unfolding books_of words_of
  good-back =
      let b = t.books in
      let p = good-read t g in
      same_tables
      (words-held stake_kind stake_width stake_laws t.stakes _ (stakes-held t g).table (stakes.same-words t.stakes fit-s))
      (words-held offer_kind offer_width offer_laws t.offers _ (offers-held t g).table (offers.same-words t.offers))
      (cc (all_words b p.sized, balance-back 0, balance-back 1, balance-back 2, balance-back 3, flag-back (get_or b paused_word 0) p.flag))

-- ---- the words of well-formed books

pub four-of : {A : Type 0} (d : A) (l : List A) → length l ≡ pools → each_pool (λ p. get_or l p d) ≡ l
four-of d [] h = absurd (omega arith)
four-of d (x ∷ []) h = absurd (omega arith)
four-of d (x ∷ y ∷ []) h = absurd (omega arith)
four-of d (x ∷ y ∷ z ∷ []) h = absurd (omega arith)
four-of d (x ∷ y ∷ z ∷ a ∷ []) h = refl
four-of d (x ∷ y ∷ z ∷ a ∷ c ∷ l) h = absurd (omega arith)

flag-read : (p : Bool) → not (eqb (cond p 1 0) 0) ≡ p
flag-read true = refl
flag-read false = refl

flag-most : (t : Bool) → cond t 1 0 ≤ 1
flag-most true = omega arith
flag-most false = omega arith

-- books of equal parts
same_books : (b : Books) (s : List StakeRow) (o : List OfferRow) (x : List Pool) (p : Bool) (m n : ℕ)
    → s ≡ b.stakes → o ≡ b.offers → x ≡ b.pools → p ≡ b.settings.paused → m ≡ b.rooms.stakes → n ≡ b.rooms.offers
    → books s o x (settings b.settings.admin b.settings.caller p b.settings.rate) (record { stakes = m; offers = n }) ≡ b
same_books b s o x p m n e1 e2 e3 e4 e5 e6 = rw (e1, e2, e3, e4, e5, e6)

module _ (b : Books) (w : WellFormed b) where
  ws : Written stake_kind stake_width stake_laws b.rooms.stakes b.stakes
  ws = written stake_kind stake_width stake_laws b.rooms.stakes b.stakes w.stake-rows w.stake-room.enough

  wo : Written offer_kind offer_width offer_laws b.rooms.offers b.offers
  wo = written offer_kind offer_width offer_laws b.rooms.offers b.offers w.offer-rows w.offer-room.enough

  number_of : (pool : ℕ) → pool < pools → to_z w64 (of_z w64 (balance_of b pool)) ≡ balance_of b pool
  number_of pool h =
      let m = balance-most b w pool h in
      number-back (balance_of b pool) (omega (arith, whole, m.above, m.below))

  -- they hold the books
  pub words_back : books_of (words_of b) ≡ b
  unfolding books_of words_of
  words_back =
      same_books b _ _ _ _ _ _ ws.reads wo.reads
      (rw (number_of 0 (omega arith), number_of 1 (omega arith), number_of 2 (omega arith), number_of 3 (omega arith)) (four-of no_figures b.pools w.four-pools))
      (flag-read b.settings.paused) ws.rooms wo.rooms

  stakes-tidy : tidy stake_width (words_of b).stakes ≡ true
  unfolding words_of
  stakes-tidy = table-tidy stake_width _ _ ws.table

  offers-tidy : tidy offer_width (words_of b).offers ≡ true
  unfolding words_of
  offers-tidy = table-tidy offer_width _ _ wo.table

  twelve-words : length (words_of b).books ≡ books_words
  unfolding words_of
  twelve-words = refl

  flag_word : get_or (words_of b).books paused_word 0 ≤ 1
  unfolding words_of
  flag_word = flag-most b.settings.paused

  -- and are good tables
  pub words-good : good_tables (words_of b) ≡ true
  words-good = good-made (words_of b) (record { stakes-tidy = stakes-tidy; offers-tidy = offers-tidy; sized = twelve-words; flag = flag_word; formed = rw words_back w })
