-- `fields_fit` meets its contract: each case by its own tests.
use mathlib.Core.Path.{refl, ◌∙◌}
use Rattle.rules.specs.Limits.{is_number}
use Rattle.rules.specs.Table.{each}
use mathlib.Core.List.{[]}
use Rattle.rules.proofs.Conditions.{all-joined}
use Rattle.rules.proofs.malformed.fields_fit.Goals as goal

pub returns-in-Stake : goal.returns-in-Stake
unfolding each
returns-in-Stake c = rw c.in-Stake.is c.is_key.ensures

pub returns-in-Withdraw : goal.returns-in-Withdraw
unfolding each
returns-in-Withdraw c = rw c.in-Withdraw.is c.is_key-in-Withdraw.ensures

pub returns-in-Reserve : goal.returns-in-Reserve
unfolding each
returns-in-Reserve c = rw c.in-Reserve.is c.is_key-in-Reserve.ensures

pub returns-in-Pause : goal.returns-in-Pause
unfolding each
returns-in-Pause c = rw c.in-Pause.is refl

pub returns-in-Unpause : goal.returns-in-Unpause
unfolding each
returns-in-Unpause c = rw c.in-Unpause.is refl

pub returns-in-PayoutCaller : goal.returns-in-PayoutCaller
unfolding each
returns-in-PayoutCaller c = let a = c.in-PayoutCaller.caller in rw c.in-PayoutCaller.is (c.is_number.ensures ∙ all-joined (is_number a.0) [])

pub returns-in-Unknown : goal.returns-in-Unknown
unfolding each
returns-in-Unknown c = rw c.in-Unknown.is refl
