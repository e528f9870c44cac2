-- A fresh set on words, case by case, and that it makes good tables.
use mathlib.Core.Path.{◌≡◌, refl, sym, ap, ◌∙◌}
use mathlib.Core.Bool.{Bool, true, false, not, cond}
use mathlib.Core.List.{List, []}
use Prim.Native.Nat.{ℕ, ◌-◌, ◌*◌, ◌^◌, ◌<◌}
use native.Mathlib.Nat.{zero-mul}
use native.Mathlib.Omega.{arith}
use lib.IntN.{pos}
use lib.ListN.{length, set, get_or-replicate}
use borrow.Author.Tests.{eqb-true, eq-eqb, ne_eqb}
use Rattle.rows.specs.Rows.{zeros}
use Rattle.rules.specs.Limits.{is_number}
use Rattle.rules.specs.Table.{each, sum_of}
use Rattle.rules.specs.declared.Account.{Account}
use Rattle.rules.specs.Answers.{fresh_code, Malformed, BadTables}
use Rattle.rules.specs.Books.{Pool, Rooms, no_figures, fresh, rooms_lent}
use Rattle.rules.proofs.Tests.{nth, word_number}
use Rattle.rules.specs.inner.Facts.{Number, WellFormed}
use Rattle.rules.proofs.Decided.{lent-read}
use Rattle.books.specs.Layout.{stake_width, offer_width, pools, books_words, admin_word}
use Rattle.books.specs.Tables.{room_of, words_of_rows, table_words}
use Rattle.books.specs.Words.{Tables, tables, stake_words, offer_words, words_of, good_tables}
use Rattle.books.specs.Fresh.{rooms_of, whole_rows, lent, renewed, fresh_words}
use Rattle.books.proofs.Good.{same_tables, words-good}

-- the lent lengths, part by part
pub record Lent (t : Tables) : Type 0 where
  pub even-stakes : room_of stake_width t.stakes * stake_width ≡ length t.stakes
  pub even-offers : room_of offer_width t.offers * offer_width ≡ length t.offers
  pub sized : length t.books ≡ books_words
  pub rooms : rooms_lent (rooms_of t) ≡ true

pub lent-parts : (t : Tables) → lent t ≡ true → Lent t
unfolding lent
lent-parts t e =
    let p = nth _ e in
    record {
      even-stakes = eqb-true (room_of stake_width t.stakes * stake_width) (length t.stakes) (p 0);
      even-offers = eqb-true (room_of offer_width t.offers * offer_width) (length t.offers) (p 1);
      sized = eqb-true (length t.books) books_words (p 2);
      rooms = p 3;
    }

-- where a test of them holds
pub lent-known : {t : Tables} {r : Bool} → r ≡ lent t → r ≡ true → Lent t
lent-known {t = t} e f = lent-parts t (sym e ∙ f)

-- a table with no row
no_rows : {A : Type 0} (enc : A → List ℕ) (w : ℕ) (s : List ℕ) → room_of w s * w ≡ length s → zeros (length s) ≡ table_words enc w (room_of w s) []
unfolding words_of_rows
no_rows enc w s e =
    let f : length s ≡ room_of w s * w - 0 * w = omega (arith, zero-mul w) in
    ap zeros f

module _ (t : Tables) (admin : Account) where
  pub fresh-no-admin : admin.0 ≡ 0 → renewed Malformed t ≡ fresh_words t admin
  unfolding fresh_words is_number
  fresh-no-admin e = rw e

  module _ (some : admin.0 ≡ 0 → ⊥) (word : admin.0 < 2 ^ 64) where
    is-number : is_number admin.0 ≡ true
    is-number = word_number admin.0 word ∙ ap not (ne_eqb admin.0 0 some)

    pub fresh-not-lent : lent t ≡ false → renewed BadTables t ≡ fresh_words t admin
    unfolding fresh_words
    fresh-not-lent e = rw (is-number, e)

    words-fresh : lent t ≡ true → tables (zeros (length t.stakes)) (zeros (length t.offers)) (set (zeros (length t.books)) admin_word admin.0) ≡ words_of (fresh admin (rooms_of t))
    unfolding words_of
    words-fresh e =
        let l = lent-parts t e in
        same_tables (no_rows stake_words stake_width t.stakes l.even-stakes) (no_rows offer_words offer_width t.offers l.even-offers) (ap (λ (n : ℕ). set (zeros n) admin_word admin.0) l.sized)

    pub fresh-done : lent t ≡ true → renewed 0 (tables (zeros (length t.stakes)) (zeros (length t.offers)) (set (zeros (length t.books)) admin_word admin.0)) ≡ fresh_words t admin
    unfolding fresh_words
    fresh-done e = rw (is-number, e) (ap (λ (x : Tables). renewed 0 x) (words-fresh e))

-- of whole rows and the books' words the code is that of the rules
pub fresh-code : (t : Tables) (admin : Account) → whole_rows stake_width t.stakes ≡ true → whole_rows offer_width t.offers ≡ true → length t.books ≡ books_words
    → (fresh_words t admin).code ≡ fresh_code admin (rooms_of t)
unfolding fresh_words lent each fresh_code
fresh-code t admin e f g = rw (e, f, eq-eqb (length t.books) books_words g) (go (is_number admin.0) (rooms_lent (rooms_of t)))
  where
    go : (n l : Bool) → (cond n (cond (cond l true false) (renewed 0 (words_of (fresh admin (rooms_of t)))) (renewed BadTables t)) (renewed Malformed t)).code ≡ cond n (cond l 0 BadTables) Malformed
    go true true = refl
    go true false = refl
    go false l = refl

-- ---- a fresh set is good

pub fresh-formed : (admin : Account) (rooms : Rooms) → Number admin.0 → rooms_lent rooms ≡ true → WellFormed (fresh admin rooms)
unfolding sum_of
fresh-formed admin rooms n e =
    let l = lent-read rooms e in
    record {
      stake-rows = tt;
      offer-rows = tt;
      stake-room = record { some = l.some-stakes; lent = l.most-stakes; enough = omega arith };
      offer-room = record { some = l.some-offers; lent = l.most-offers; enough = omega arith };
      four-pools = refl;
      balance-is = λ p h. ap (λ (x : Pool). x.balance) (get_or-replicate pools p no_figures no_figures h);
      unpaid-is = λ p h. ap (λ (x : Pool). pos x.unpaid) (get_or-replicate pools p no_figures no_figures h);
      admin = n;
      caller = omega arith;
      rate-most = omega arith;
    }

pub fresh-good : (t : Tables) (admin : Account) → Number admin.0 → lent t ≡ true → good_tables (words_of (fresh admin (rooms_of t))) ≡ true
fresh-good t admin n e = words-good (fresh admin (rooms_of t)) (fresh-formed admin (rooms_of t) n (lent-parts t e).rooms)
