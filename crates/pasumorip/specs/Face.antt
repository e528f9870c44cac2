-- What C and Rust get from the library, over the words and bytes that they lend.
use Rattle.std.specs.Prelude.{cond, ◌&&◌, List, [], ◌∷◌, ◌++◌, ℕ, eqb, leb, length, get_or, Result, Ok, Err}
use Rattle.std.specs.Int.{w64}
use Rattle.std.proofs.Common.{of_z}
use Rattle.rules.specs.declared.Account.{Account}
use Rattle.rules.specs.declared.Offer.{Offer}
use Rattle.rules.specs.declared.Entry.{Entry}
use Rattle.rules.specs.Answers.{Answer}
use Rattle.rules.specs.Answers.{refusal, told_code, Malformed, BadTables}
use Rattle.books.specs.Words.{Tables, books_of, good_tables, step_words}
use Rattle.log_file.specs.Records.{record_bytes, call_of, record_of}
use Rattle.log_file.specs.Writer.{WriteOutcome, write_head, write_record}
use Rattle.history.specs.declared.Progress.{Progress}
use Rattle.history.specs.Replays.{replayed}
use Rattle.queries.specs.Queries.{query_words}
use Rattle.queries.specs.Asking.{question_of}
use Rattle.queries.specs.Lookups.{LookupAnswer, stake_lookup, offer_lookup}

-- ---- answers as words

abbrev pub answer_length : ℕ
answer_length = 9

abbrev pub numbers_length : ℕ
numbers_length = 3

-- a query's: code, and two numbers in two's complement
abbrev pub number_words : Answer → List ℕ
number_words a = a.code ∷ of_z w64 a.first ∷ of_z w64 a.second ∷ []

-- a call's: code, two numbers, then for each of two transfers kind, account, amount
abbrev pub answer_words : Answer → List ℕ
answer_words a =
    a.code ∷ of_z w64 a.first ∷ of_z w64 a.second
    ∷ a.one.kind ∷ a.one.account.0 ∷ a.one.amount
    ∷ a.two.kind ∷ a.two.account.0 ∷ a.two.amount ∷ []

-- ---- a call: its code, the tables and the words of the answer after it

pub record Answered : Type 0 where
  pub code : ℕ
  pub tables : Tables
  pub answer : List ℕ

abbrev pub answered : ℕ → Tables → List ℕ → Answered
answered code t answer = record { code = code; tables = t; answer = answer }

-- bytes that are no record are refused as a malformed call is; into an answer of another length nothing is written
unfoldable pub applied : Tables → List ℕ → List ℕ → Answered
applied t bytes room =
    let r = step_words t (record_of bytes 0) in
    cond (eqb (length room) answer_length)
    (cond (eqb (length bytes) record_bytes) (answered r.answer.code r.tables (answer_words r.answer)) (answered Malformed t (answer_words (refusal Malformed))))
    (answered Malformed t room)

-- ---- a query: its code, and the words of its answer

pub record Queried : Type 0 where
  pub code : ℕ
  pub answer : List ℕ

abbrev pub queried : ℕ → List ℕ → Queried
queried code answer = record { code = code; answer = answer }

-- into an answer of another length nothing is written
unfoldable pub questioned : Tables → ℕ → ℕ → ℕ → ℕ → List ℕ → Queried
questioned t kind pool number time room =
    let a = query_words t (question_of (books_of t) kind pool number time) in
    cond (eqb (length room) numbers_length) (queried a.code (number_words a)) (queried Malformed room)

-- ---- a lookup: its code, and the words of its answer

abbrev pub lookup_length : ℕ
lookup_length = 4

-- 1 and where the row is, or 0 and where it would be put in
abbrev pub place_words : Result ℕ ℕ → List ℕ
place_words (Ok i) = 1 ∷ i ∷ []
place_words (Err i) = 0 ∷ i ∷ []

-- code, place, and the number of rows read
abbrev pub lookup_words : LookupAnswer → List ℕ
lookup_words l = (l.code ∷ place_words l.place) ++ (l.reads ∷ [])

-- into an answer of another length nothing is written
abbrev pub looked_up : LookupAnswer → List ℕ → Queried
looked_up l room = cond (eqb (length room) lookup_length) (queried l.code (lookup_words l)) (queried Malformed room)

unfoldable pub stake_looked_up : Tables → ℕ → Account → List ℕ → Queried
stake_looked_up t pool account room = looked_up (stake_lookup t pool account) room

unfoldable pub offer_looked_up : Tables → ℕ → Offer → List ℕ → Queried
offer_looked_up t pool offer room = looked_up (offer_lookup t pool offer) room

-- ---- a replay: its code, the tables, the text and the words of its progress after it

pub record Resumed : Type 0 where
  pub code : ℕ
  pub tables : Tables
  pub text : List ℕ
  pub progress : List ℕ

abbrev pub resumed : ℕ → Tables → List ℕ → List ℕ → Resumed
resumed code t text progress = record { code = code; tables = t; text = text; progress = progress }

-- records in all so far, bytes of the records taken, bytes of text written
abbrev pub progress_words : Progress → List ℕ
progress_words p = p.number ∷ p.taken ∷ p.printed ∷ []

abbrev pub progress_length : ℕ
progress_length = 3

-- records may have been run before, at most 2^63
abbrev pub most_before : ℕ
most_before = 9_223_372_036_854_775_808

-- the first word of the progress is the records that were run before. A progress of another length, or more of them, is refused, and nothing is
-- written
unfoldable pub replayed_from : Tables → List ℕ → List ℕ → List ℕ → Resumed
replayed_from t records text progress =
    let o = replayed t records text (get_or progress 0 0) in
    cond (eqb (length progress) progress_length && leb (get_or progress 0 0) most_before)
    (cond (good_tables t) (resumed 0 o.tables o.text (progress_words o.progress)) (resumed BadTables t text progress))
    (resumed Malformed t text progress)

-- ---- a write: its code, and the buffer after it. A head has 16 bytes and a record 48, so that the code tells how many were written

pub record Buffered : Type 0 where
  pub code : ℕ
  pub buffer : List ℕ

abbrev pub buffered : ℕ → List ℕ → Buffered
buffered code buffer = record { code = code; buffer = buffer }

abbrev pub shown : WriteOutcome → Buffered
shown w = buffered (told_code w.answer) w.buffer

unfoldable pub head_written : List ℕ → ℕ → Account → Buffered
head_written buffer at admin = shown (write_head buffer at admin)

-- from the fields that a record has
unfoldable pub record_written : List ℕ → ℕ → ℕ → Account → Entry → Buffered
record_written buffer at now signer fields = shown (write_record buffer at (call_of now signer fields))
