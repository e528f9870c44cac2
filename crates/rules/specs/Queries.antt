-- The queries: an answer, and the books stay. Code 2 again is of the layer that reads books from words.
use Rattle.std.specs.Prelude.{Bool, cond, List, [], ◌∷◌, ℕ, leb, ℤ, pos, nat_abs}
use Rattle.rules.specs.Limits.{limit, last_time, is_pool, is_number}
use Rattle.rules.specs.Terms.{yield_rate, accrued_sum}
use Rattle.rules.specs.Table.{all, count}
use Rattle.rules.specs.Books.{Books, stake_at, offer_at, balance_of, unpaid_of}
use Rattle.rules.specs.Sharing.{sharer}
use Rattle.rules.specs.Calls.{Account, Offer}
use Rattle.rules.specs.Answers.{Answer, refusal, done, no_transfer, Malformed, OverLimit}

-- two numbers and no transfer
abbrev pub told : ℤ → ℤ → Answer
told first second = done first second no_transfer no_transfer

-- the answer where the question's own fields meet their needs: "they answer 1 or 2 alike"
abbrev pub asked : List Bool → Answer → Answer
asked fields a = cond (all fields) a (refusal Malformed)

-- get_stake, get_tier_stake
unfoldable pub get_stake : Books → ℕ → Account → Answer
get_stake b pool account = asked (is_pool pool ∷ is_number account.0 ∷ []) (told (stake_at b pool account).stake (pos 0))

-- accrued_yield, accrued_tier_yield. W-204: "let the query answer a signed sum within plus or minus 10^15, else OverLimit"
unfoldable pub accrued_yield : Books → ℕ → ℕ → Account → Answer
accrued_yield b now pool account =
    let r = stake_at b pool account in
    let sum = accrued_sum (yield_rate b.settings.rate pool) now r.stake r.since r.accrual in
    asked (leb now last_time ∷ is_pool pool ∷ is_number account.0 ∷ []) (cond (leb (nat_abs sum) limit) (told sum (pos 0)) (refusal OverLimit))

-- get_pool, get_pool_total: "A pool query answers balance and unpaid reserved sum"
unfoldable pub get_pool : Books → ℕ → Answer
get_pool b pool = asked (is_pool pool ∷ []) (told (balance_of b pool) (pos (unpaid_of b pool)))

-- get_stakers_count: "The stakers' count of a pool is its rows with a non-zero stake"
unfoldable pub get_stakers_count : Books → ℕ → Answer
get_stakers_count b pool = asked (is_pool pool ∷ []) (told (pos (count (sharer pool) b.stakes)) (pos 0))

-- get_reserved, get_paid: "an offer query reserved and paid"
unfoldable pub get_offer : Books → ℕ → Offer → Answer
get_offer b pool offer =
    let r = offer_at b pool offer in
    asked (is_pool pool ∷ is_number offer.0 ∷ []) (told (pos r.reserved) (pos r.paid))
