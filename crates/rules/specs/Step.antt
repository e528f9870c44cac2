-- A call on books: its answer, and the books after it. "Tests run in this order: 1, 2, 3, 4, 5, .. 11": 1 here, 2 in the layer that
-- reads books from words, the others in each operation's plan.
use Rattle.std.specs.Prelude.{Bool, true, false, not, List, ◌∷◌, ℕ, leb}
use Rattle.rules.specs.Limits.{last_time, is_number}
use Rattle.rules.specs.Table.{all}
use Rattle.rules.specs.Books.{Books}
use Rattle.rules.specs.Calls.{Account, Operation, Call, Stake, Withdraw, Pay, Reserve, Claim, Rate, Pause, Unpause, PayoutCaller, Unknown}
use Rattle.rules.specs.Operations.{entry_of, entry_tests}
use Rattle.rules.specs.Answers.{Outcome, Plan, ◌refuses◌else◌, enact, Malformed}
use Rattle.rules.specs.Stakes.{stake, unstake}
use Rattle.rules.specs.Payouts.{pay_out, reserve_payout, claim_payout}
use Rattle.rules.specs.Settings.{set_yield_rate, set_paused, set_payout_caller}

-- what an operation's own fields must meet: its line of the table
abbrev pub field_tests : Operation → List Bool
field_tests o = entry_tests (entry_of o)

-- code 1: "`now` too large", a signer that is no number, or a field that does not meet its need
unfoldable pub malformed : Call → Bool
malformed c = not (all (leb c.now last_time ∷ is_number c.signer.0 ∷ field_tests c.operation))

-- the plan of each operation; an unknown one is Malformed and never gets here
abbrev pub plan_of : Books → ℕ → Account → Operation → Plan
plan_of b now signer (Stake c) = stake b now signer c
plan_of b now signer (Withdraw c) = unstake b now signer c
plan_of b now signer (Pay c) = pay_out b signer c
plan_of b now signer (Reserve c) = reserve_payout b signer c
plan_of b now signer (Claim c) = claim_payout b signer c
plan_of b now signer (Rate c) = set_yield_rate b now signer c
plan_of b now signer Pause = set_paused b signer true
plan_of b now signer Unpause = set_paused b signer false
plan_of b now signer (PayoutCaller a) = set_payout_caller b signer a
plan_of b now signer Unknown = Plan.refused Malformed

-- a call on well-formed books
unfoldable pub step : Books → Call → Outcome
step b c = enact b (malformed c refuses Malformed else plan_of b c.now c.signer c.operation)
