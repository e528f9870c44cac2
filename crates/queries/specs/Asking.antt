-- A question by its number: kind, and the fields that it may use.
use Rattle.std.specs.Prelude.{Bool, true, cond, ◌&&◌, [], ◌∷◌, ℕ, eqb, get_or}
use Rattle.rules.specs.Books.{Books}
use Rattle.rules.specs.Calls.{account_no, offer_no}
use Rattle.rules.specs.Answers.{Answer}
use Rattle.rules.specs.Answers.{refusal, Malformed}
use Rattle.rules.specs.Queries.{get_stake, accrued_yield, get_pool, get_stakers_count, get_offer}

-- "an unused field not 0" is Malformed: whether those of a kind are 0
unfoldable pub unused_zero : ℕ → ℕ → ℕ → Bool
unused_zero kind number time =
    get_or (true ∷ eqb time 0 ∷ true ∷ (eqb number 0 && eqb time 0) ∷ (eqb number 0 && eqb time 0) ∷ eqb time 0 ∷ []) kind true

-- 1 stake, 2 accrued, 3 pool, 4 stakers' count, 5 offer; "only the accrued one a time"; another kind is Malformed
unfoldable pub answer_of : Books → ℕ → ℕ → ℕ → ℕ → Answer
answer_of b kind pool number time =
    get_or
    (refusal Malformed
    ∷ get_stake b pool (account_no number)
    ∷ accrued_yield b time pool (account_no number)
    ∷ get_pool b pool
    ∷ get_stakers_count b pool
    ∷ get_offer b pool (offer_no number)
    ∷ [])
    kind
    (refusal Malformed)

unfoldable pub question_of : Books → ℕ → ℕ → ℕ → ℕ → Answer
question_of b kind pool number time = cond (unused_zero kind number time) (answer_of b kind pool number time) (refusal Malformed)
