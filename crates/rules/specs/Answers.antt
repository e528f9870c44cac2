-- Answers, plans, and the ladder of tests that a plan is.
use Rattle.std.specs.Prelude.{Bool, not, cond, ℕ, eqb, ℤ, pos, Option, Some, None, Result, Ok, Err}
use Rattle.rules.specs.Limits.{is_number}
use Rattle.rules.specs.Books.{Books, Rooms, rooms_lent}
use Rattle.rules.specs.Calls.{Account, no_account}
use Rattle.rules.specs.declared.refusal.Refusal.{Refusal}
use Rattle.rules.specs.declared.refusal.Refusal.TheVariants as reason
use Rattle.rules.specs.declared.answers.Direction.{Direction}
use Rattle.rules.specs.declared.answers.Direction.TheVariants.{In, Out}
use Rattle.rules.specs.declared.answers.Transfer as money
use Rattle.rules.specs.declared.answers.Done.{Done}

-- ---- document 01's table of codes; Done is 0

-- "unknown operation, pool or registry reply; `now` too large; number 0 where one is needed"
abbrev pub Malformed : ℕ
Malformed = 1

-- "tables not well formed"; given by the layer that reads words
abbrev pub BadTables : ℕ
BadTables = 2

-- assert_not_paused: "paused, for all but flat `unstake`, `pause`, `unpause`, queries"
abbrev pub Paused : ℕ
Paused = 3

-- panic!("No payout caller configured"): "with no payout caller set"
abbrev pub NoPayer : ℕ
NoPayer = 4

-- require_auth, assert_admin: "signer is not the staker, payout caller or admin needed"
abbrev pub NotAllowed : ℕ
NotAllowed = 5

-- ContractError::InvalidInput: "amount 0 or less; stake plus amount below 1,000,000"
abbrev pub InvalidInput : ℕ
InvalidInput = 6

-- panic!("Registry not configured"): "pay, reply 0"
abbrev pub NoRegistry : ℕ
NoRegistry = 7

-- ContractError::InvalidTransition: "pay, reply 1"
abbrev pub InvalidTransition : ℕ
InvalidTransition = 8

-- ContractError::InsufficientBalance: "withdrawal above the stake; claim with no cover left"
abbrev pub InsufficientBalance : ℕ
InsufficientBalance = 9

-- "rate above its limit; amount above 10^15, except in a withdrawal; a stake, accrual .. or reserved sum that would pass its limit"
abbrev pub OverLimit : ℕ
OverLimit = 10

-- "a row must be added and none is free"
abbrev pub TableFull : ℕ
TableFull = 11

-- a fresh set's code: "with admin 0 it is refused 1; lent lengths outside the limits are refused 2"
unfoldable pub fresh_code : Account → Rooms → ℕ
fresh_code admin rooms = cond (is_number admin.0) (cond (rooms_lent rooms) 0 BadTables) Malformed

-- the code of a refusal as the code names it
abbrev pub code_of : Refusal → ℕ
code_of reason.Malformed = Malformed
code_of reason.BadTables = BadTables
code_of reason.Paused = Paused
code_of reason.NoPayer = NoPayer
code_of reason.NotAllowed = NotAllowed
code_of reason.InvalidInput = InvalidInput
code_of reason.NoRegistry = NoRegistry
code_of reason.InvalidTransition = InvalidTransition
code_of reason.InsufficientBalance = InsufficientBalance
code_of reason.OverLimit = OverLimit
code_of reason.TableFull = TableFull

-- the code that a result tells: 0 where it is done
abbrev pub told_code : {A : Type 0} → Result A Refusal → ℕ
told_code (Ok x) = 0
told_code (Err r) = code_of r

-- ---- transfers: "transfers due, at most two, handed back in the answer"

-- a transfer's place: its kind, an account and an amount
pub record Transfer : Type 0 where
  pub kind : ℕ
  pub account : Account
  pub amount : ℕ

-- the place of a transfer that is not due
abbrev pub no_transfer : Transfer
no_transfer = record { kind = 0; account = no_account; amount = 0 }

-- transfer_from the account to the pool
abbrev pub transfer_in : Account → ℕ → Transfer
transfer_in a n = record { kind = 1; account = a; amount = n }

-- transfer from the pool to the account
abbrev pub transfer_out : Account → ℕ → Transfer
transfer_out a n = record { kind = 2; account = a; amount = n }

abbrev pub placed : Direction → Account → ℕ → Transfer
placed In = transfer_in
placed Out = transfer_out

-- what stands in the place of a transfer as the code gives it
abbrev pub due : Option money.Transfer → Transfer
due None = no_transfer
due (Some t) = placed t.direction t.account t.amount

-- ---- answers

-- "code, two numbers" and two places for transfers
pub record Answer : Type 0 where
  pub code : ℕ
  pub first : ℤ
  pub second : ℤ
  pub one : Transfer
  pub two : Transfer

-- "Codes 1 to 11 answer 0, 0, no transfer"
abbrev pub refusal : ℕ → Answer
refusal code = record { code = code; first = pos 0; second = pos 0; one = no_transfer; two = no_transfer }

-- "the call took effect, or is one that pays or grants 0"
abbrev pub done : ℤ → ℤ → Transfer → Transfer → Answer
done first second one two = record { code = 0; first = first; second = second; one = one; two = two }

-- the answer of a result as the code gives it
abbrev pub answer_of : Result Done Refusal → Answer
answer_of (Ok d) = done d.first d.second (due d.one) (due d.two)
answer_of (Err r) = refusal (code_of r)

-- what a call comes to
pub record Outcome : Type 0 where
  pub answer : Answer
  pub books : Books

-- its maker
abbrev pub outcome : Answer → Books → Outcome
outcome a b = record { answer = a; books = b }

-- ---- plans: a call's codes are "settled before any row is written"

-- refused with a code; or done, with its two numbers, its two transfers and the books after it
pub data Plan : Type 0 where
  refused : ℕ → Plan
  does : ℤ → ℤ → Transfer → Transfer → Books → Plan

-- done with no transfer
abbrev pub answers : ℤ → ℤ → Books → Plan
answers first second b = does first second no_transfer no_transfer b

-- where the test holds the call is refused with the code, and otherwise p: "The first that applies is the answer"
infixr 5 ◌refuses◌else◌
abbrev pub ◌refuses◌else◌ : Bool → ℕ → Plan → Plan
test refuses code else p = cond test (refused code) p

-- a refused call leaves "all tables as before"
abbrev pub enact : Books → Plan → Outcome
enact b (refused code) = outcome (refusal code) b
enact b (does first second one two after) = outcome (done first second one two) after

-- the signer is not the one "needed"
unfoldable pub not_by : Account → Account → Bool
not_by needed signer = not (eqb signer.0 needed.0)
