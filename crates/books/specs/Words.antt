-- The lent words read as the books of the rules and written back, and a call on words. A stake row is pool, account, stake, since, accrual;
-- an offer row is pool, offer, reserved, paid; the books are four balances, four unpaid sums, admin, payout caller, paused, rate (`Layout`).
-- Stakes and balances are signed, in two's complement.
use Rattle.std.specs.Prelude.{Bool, not, cond, List, [], ◌∷◌, ◌++◌, ℕ, ◌+◌, eqb, leb, ℤ, length, get_or}
use Rattle.std.specs.Int.{w64}
use Rattle.std.proofs.Common.{to_z, of_z}
use Rattle.rows.specs.Rows.{word}
use Rattle.rules.specs.Table.{all}
use Rattle.rules.specs.Books.{Books, Pool, Rooms, StakeRow, OfferRow, books, settings, balance_of, unpaid_of}
use Rattle.rules.specs.Formed.{well_formed}
use Rattle.rules.specs.Answers.{Answer}
use Rattle.rules.specs.declared.Call.{Call}
use Rattle.rules.specs.Calls.{account_no}
use Rattle.rules.specs.Answers.{Plan, refused, does, refusal, done, Malformed, BadTables}
use Rattle.rules.specs.Step.{malformed, plan_of}
use Rattle.books.specs.Layout.{stake_width, offer_width, pool_word, number_word, stake_word, since_word, accrual_word, reserved_word, paid_word, each_pool, books_words, unpaid_words, admin_word, caller_word, paused_word, rate_word}
use Rattle.books.specs.Tables.{room_of, table_of, table_words, tidy}

-- the three lent slices
pub record Tables : Type 0 where
  pub stakes : List ℕ
  pub offers : List ℕ
  pub books : List ℕ

abbrev pub tables : List ℕ → List ℕ → List ℕ → Tables
tables s o b = record { stakes = s; offers = o; books = b }

-- ---- rows

abbrev pub stake_row_at : List ℕ → ℕ → StakeRow
stake_row_at s i = record {
  pool = word s stake_width i pool_word;
  account = word s stake_width i number_word;
  stake = to_z w64 (word s stake_width i stake_word);
  since = word s stake_width i since_word;
  accrual = word s stake_width i accrual_word;
}

abbrev pub stake_words : StakeRow → List ℕ
stake_words r = r.pool ∷ r.account ∷ of_z w64 r.stake ∷ r.since ∷ r.accrual ∷ []

abbrev pub offer_row_at : List ℕ → ℕ → OfferRow
offer_row_at s i = record {
  pool = word s offer_width i pool_word;
  offer = word s offer_width i number_word;
  reserved = word s offer_width i reserved_word;
  paid = word s offer_width i paid_word;
}

abbrev pub offer_words : OfferRow → List ℕ
offer_words r = r.pool ∷ r.offer ∷ r.reserved ∷ r.paid ∷ []

-- ---- the books

-- a pool's balance (the balances come first), its unpaid sum, and both
abbrev pub balance_in : List ℕ → ℕ → ℤ
balance_in b pool = to_z w64 (get_or b pool 0)

abbrev pub unpaid_in : List ℕ → ℕ → ℕ
unpaid_in b pool = get_or b (unpaid_words + pool) 0

abbrev pub pool_in : List ℕ → ℕ → Pool
pool_in b pool = record { balance = balance_in b pool; unpaid = unpaid_in b pool }

-- as many rows as were lent
abbrev pub rooms_of : Tables → Rooms
rooms_of t = record { stakes = room_of stake_width t.stakes; offers = room_of offer_width t.offers }

unfoldable pub books_of : Tables → Books
books_of t =
    let b = t.books in
    books (table_of stake_row_at stake_width t.stakes) (table_of offer_row_at offer_width t.offers)
    (each_pool (pool_in b))
    (settings (account_no (get_or b admin_word 0)) (account_no (get_or b caller_word 0)) (not (eqb (get_or b paused_word 0) 0)) (get_or b rate_word 0))
    (rooms_of t)

unfoldable pub words_of : Books → Tables
words_of b =
    let s = b.settings in
    tables (table_words stake_words stake_width b.rooms.stakes b.stakes) (table_words offer_words offer_width b.rooms.offers b.offers)
    (each_pool (λ pool. of_z w64 (balance_of b pool)) ++ each_pool (unpaid_of b) ++ (s.admin.0 ∷ s.caller.0 ∷ cond s.paused 1 0 ∷ s.rate ∷ []))

-- ---- code 2, BadTables: "tables not well formed"

unfoldable pub good_tables : Tables → Bool
good_tables t =
    all (tidy stake_width t.stakes ∷ tidy offer_width t.offers ∷ eqb (length t.books) books_words ∷ leb (get_or t.books paused_word 0) 1 ∷ well_formed (books_of t) ∷ [])

-- ---- a call on words

pub record Result : Type 0 where
  pub answer : Answer
  pub tables : Tables

abbrev pub result_of : Answer → Tables → Result
result_of a t = record { answer = a; tables = t }

-- what a plan comes to on the words: a call that is refused leaves every bit, and one that is done leaves the words of its books
abbrev pub acted : Tables → Plan → Result
acted t (refused code) = result_of (refusal code) t
acted t (does first second one two after) = result_of (done first second one two) (words_of after)

-- "Tests run in this order: 1, 2, ..": malformed, then the tables, then the operation's own
unfoldable pub step_words : Tables → Call → Result
step_words t c =
    cond (malformed c) (result_of (refusal Malformed) t)
    (cond (good_tables t) (acted t (plan_of (books_of t) c.now c.signer c.operation)) (result_of (refusal BadTables) t))
