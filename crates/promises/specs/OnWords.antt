-- The terms of demand 3 on the words that the engine is lent.
use Rattle.std.specs.Prelude.{◌≡◌, true, false, List, [], ◌∷◌, ℕ, ◌-◌, pos}
use Rattle.rules.specs.Books.{Books}
use Rattle.rules.specs.Answers.{refusal, done, no_transfer, transfer_out, OverLimit}
use Rattle.rules.specs.Payouts.{cover_of, after_loss, after_claim}
use Rattle.books.specs.Words.{Tables, Result, books_of, words_of, good_tables, result_of, step_words}
use Rattle.books.specs.Runs.{run_words}
use Rattle.promises.specs.Calls.{ClaimCall, Call, Answer}
use Rattle.promises.specs.Histories.{run, answers_of}
use Rattle.promises.specs.Claims.{takes_out, none_below}

-- the calls' answers, one after the other
unfoldable pub answers_on_words : Tables → List Call → List Answer
answers_on_words t [] = []
answers_on_words t (c ∷ calls) = (step_words t c).answer ∷ answers_on_words (step_words t c).tables calls

-- the calls on the words go as on the books: good words after them, that hold the books after them, and the same answers
pub record Follows (t : Tables) (b : Books) (calls : List Call) : Type 0 where
  pub good : good_tables (run_words t calls) ≡ true
  pub books : books_of (run_words t calls) ≡ run b calls
  pub answers : answers_on_words t calls ≡ answers_of b calls

-- along the calls no withdrawal and no direct payout of the pool takes effect: each leaves the books that the words hold as they were
abbrev pub QuietOnWords : ℕ → Tables → List Call → Type 0
QuietOnWords pool t [] = Unit {0}
QuietOnWords pool t (c ∷ calls) = (takes_out pool c.operation ≡ true → books_of (step_words t c).tables ≡ books_of t) × QuietOnWords pool (step_words t c).tables calls

-- what a claim of n comes to: n paid, and the words of the books after it; or OverLimit and every bit as it was, with a stake that would
-- fall below −10^15
pub data PaidOrOverOnWords (t : Tables) (c : ClaimCall) (n : ℕ) (x : Result) : Type 0 where
  pays-on-words : x ≡ result_of (done (pos n) (pos (cover_of (books_of t) c - n)) (transfer_out c.lender n) no_transfer) (words_of (after_claim (books_of t) c n)) → PaidOrOverOnWords t c n x
  over-on-words : x ≡ result_of (refusal OverLimit) t → none_below (after_loss (books_of t) c.pool n).stakes ≡ false → PaidOrOverOnWords t c n x
