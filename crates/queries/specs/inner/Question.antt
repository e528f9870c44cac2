-- What a question that is made of numbers asks of the books.
use Rattle.std.specs.Prelude.{Option, Some, None}
use Rattle.rules.specs.Books.{Books}
use Rattle.rules.specs.Answers.{Answer, refusal, Malformed}
use Rattle.rules.specs.Queries.{get_stake, accrued_yield, get_pool, get_stakers_count, get_offer}
use Rattle.queries.specs.declared.asking.Question.{Question}
use Rattle.queries.specs.declared.asking.Question.TheVariants.{Stake, Accrued, Pool, StakersCount, Offer}

-- of numbers that are no question it is the refusal
abbrev pub answered : Books → Option Question → Answer
answered b None = refusal Malformed
answered b (Some (Stake pool account)) = get_stake b pool account
answered b (Some (Accrued time pool account)) = accrued_yield b time pool account
answered b (Some (Pool pool)) = get_pool b pool
answered b (Some (StakersCount pool)) = get_stakers_count b pool
answered b (Some (Offer pool offer)) = get_offer b pool offer
