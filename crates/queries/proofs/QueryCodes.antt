-- Every query's code is one of document 01's.
use mathlib.Core.Bool.{Bool, true, false, cond}
use mathlib.Core.List.{List, [], ◌∷◌}
use Prim.Native.Nat.{ℕ, zero, suc, ◌≤◌}
use native.Mathlib.Omega.{arith}
use lib.Dec.{eqb, leb}
use lib.IntN.{ℤ, pos, nat_abs}
use Rattle.rules.specs.Limits.{limit, last_time, is_pool, is_number}
use Rattle.rules.specs.Terms.{yield_rate, accrued_sum}
use Rattle.rules.specs.Table.{all, count}
use Rattle.rules.specs.Books.{Books, stake_at, offer_at, balance_of, unpaid_of}
use Rattle.rules.specs.Sharing.{sharer}
use Rattle.rules.specs.Answers.{Answer}
use Rattle.rules.specs.Answers.{refusal, Malformed, BadTables, OverLimit}
use Rattle.rules.specs.Calls.{account_no, offer_no}
use Rattle.rules.specs.Queries.{told, asked, get_stake, accrued_yield, get_pool, get_stakers_count, get_offer}
use Rattle.books.specs.Words.{Tables, good_tables}
use Rattle.queries.specs.Queries.{query_words}
use Rattle.queries.specs.Asking.{unused_zero, answer_of, question_of}

one-coded : (t : Bool) (x y : Answer) → x.code ≤ 11 → y.code ≤ 11 → (cond t x y).code ≤ 11
one-coded true x y h i = h
one-coded false x y h i = i

-- an answer under the tests of its fields
told-coded : (fields : List Bool) (first second : ℤ) → (asked fields (told first second)).code ≤ 11
told-coded fields first second = one-coded (all fields) (told first second) (refusal Malformed) (omega arith) (omega arith)

module _ (b : Books) (pool number time : ℕ) where
  answer-coded : (kind : ℕ) → (answer_of b kind pool number time).code ≤ 11
  unfolding answer_of get_stake accrued_yield get_pool get_stakers_count get_offer
  answer-coded zero = omega arith
  answer-coded (suc zero) = told-coded (is_pool pool ∷ is_number number ∷ []) (stake_at b pool (account_no number)).stake (pos 0)
  answer-coded (suc (suc zero)) =
      let r = stake_at b pool (account_no number) in
      let sum = accrued_sum (yield_rate b.settings.rate pool) time r.stake r.since r.accrual in
      one-coded (all (leb time last_time ∷ is_pool pool ∷ is_number number ∷ [])) _ (refusal Malformed) (one-coded (leb (nat_abs sum) limit) (told sum (pos 0)) (refusal OverLimit) (omega arith) (omega arith)) (omega arith)
  answer-coded (suc (suc (suc zero))) = told-coded (is_pool pool ∷ []) (balance_of b pool) (pos (unpaid_of b pool))
  answer-coded (suc (suc (suc (suc zero)))) = told-coded (is_pool pool ∷ []) (pos (count (sharer pool) b.stakes)) (pos 0)
  answer-coded (suc (suc (suc (suc (suc zero))))) =
      let r = offer_at b pool (offer_no number) in
      told-coded (is_pool pool ∷ is_number number ∷ []) (pos r.reserved) (pos r.paid)
  answer-coded (suc (suc (suc (suc (suc (suc kind)))))) = omega arith

  question-coded : (kind : ℕ) → (question_of b kind pool number time).code ≤ 11
  unfolding question_of
  question-coded kind = one-coded (unused_zero kind number time) (answer_of b kind pool number time) (refusal Malformed) (answer-coded kind) (omega arith)

  pub query-coded : (t : Tables) (kind : ℕ) → (query_words t (question_of b kind pool number time)).code ≤ 11
  unfolding query_words
  query-coded t kind =
      let a = question_of b kind pool number time in
      one-coded (eqb a.code Malformed) a (cond (good_tables t) a (refusal BadTables)) (question-coded kind) (one-coded (good_tables t) a (refusal BadTables) (question-coded kind) (omega arith))
