-- The plans of a stake and a withdrawal, on the rules' books, by the code of their first rungs; and a call that is refused.
use mathlib.Core.Path.{◌≡◌, sym}
use mathlib.Core.Bool.{Bool, cond, ◌||◌}
use Prim.Native.Nat.{ℕ}
use native.Mathlib.Omega.{arith}
use lib.Dec.{ltb, eqb}
use lib.IntN.{pos}
use lib.Signed.{lt_z, le_z}
use Rattle.std.specs.Prelude.{Result, Err, IsErrAnd}
use Rattle.std.proofs.lemmas.Result.{err_from_is_err_and}
use Rattle.whole.specs.Whole.{up}
use Rattle.rules.specs.Limits.{limit, least_stake}
use Rattle.rules.specs.Books.{Books, StakeRow}
use Rattle.rules.specs.declared.Account.{Account}
use Rattle.rules.specs.declared.StakeCall.{StakeCall}
use Rattle.rules.specs.declared.refusal.Refusal.{Refusal}
use Rattle.rules.specs.Answers.{Plan, refused, does, code_of, ◌refuses◌else◌, not_by, no_transfer, transfer_in, transfer_out, Paused, NotAllowed, InvalidInput, InsufficientBalance, OverLimit, TableFull}
use Rattle.rules.specs.Stakes.{staked_row, no_stake_room, after_stake, yield_due, overdrawn, after_unstake}
use Rattle.books.specs.Words.{Tables}
use Rattle.stakes.specs.declared.staker.Change.{Change}
use Rattle.stakes.specs.inner.Changes.{staker_code, SettledTo}

-- ---- the first rungs

module _ (barred : Bool) (signer : Account) (c : StakeCall) (p : Plan) (told : Bool) (same : told ≡ barred) where
  abbrev first_rungs : Plan
  first_rungs =
      barred refuses Paused else
      not_by c.staker signer refuses NotAllowed else
      le_z c.amount (pos 0) refuses InvalidInput else
      p

  pub let_pass : 0 ≡ staker_code told signer c → first_rungs ≡ p
  unfolding staker_code
  let_pass e = grind arith

  pub turned_down : (r : Refusal) → code_of r ≡ staker_code told signer c → first_rungs ≡ refused (code_of r)
  unfolding staker_code
  turned_down r e = grind arith

-- ---- stake, past them

module _ (b : Books) (time : ℕ) (c : StakeCall) where
  abbrev pub staking : Plan
  staking = does (pos 0) (pos 0) (transfer_in c.staker (up c.amount)) no_transfer (after_stake b time c)

  abbrev pub stake_rungs : Plan
  stake_rungs =
      lt_z (pos limit) c.amount refuses OverLimit else
      lt_z (staked_row b time c).stake (pos least_stake) refuses InvalidInput else
      lt_z (pos limit) (staked_row b time c).stake || ltb limit (yield_due b time c) refuses OverLimit else
      no_stake_room b c refuses TableFull else
      staking

  -- ---- withdraw, past them

  abbrev pub unstaking : Plan
  unstaking =
      let due = yield_due b time c in
      does (pos 0) (pos 0) (transfer_out c.staker (up c.amount)) (cond (eqb due 0) no_transfer (transfer_out c.staker due)) (after_unstake b time c)

  abbrev pub unstake_rungs : Plan
  unstake_rungs =
      overdrawn b c refuses InsufficientBalance else
      ltb limit (yield_due b time c) refuses OverLimit else
      unstaking

-- ---- refused

pub refusing : {t : Tables} {plan : Plan} {row : StakeRow} {r : Refusal} → plan ≡ refused (code_of r) → SettledTo t plan row (Err r)
refusing e = record { plan-is = sym e; row_is = tt; ready = tt }

-- a refusal that `?` passes on
pub passing-on : {t : Tables} {plan : Plan} {row : StakeRow} {out : Result Change Refusal} (r : Refusal) → plan ≡ refused (code_of r) → IsErrAnd out (λ x. x ≡ r) → SettledTo t plan row out
passing-on {out} r e h = let p = err_from_is_err_and out h in rw (p.1, p.2) (refusing e)
