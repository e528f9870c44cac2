-- Every answer's code is one of document 01's, 0 to 11.
use mathlib.Core.Path.{◌≡◌, refl}
use mathlib.Core.Bool.{Bool, true, false, not, cond, ◌&&◌, ◌||◌}
use Prim.Native.Nat.{ℕ, ◌≤◌}
use native.Mathlib.Omega.{arith}
use borrow.Author.Tests.{leb-true}
use lib.Dec.{ltb, leb, eqb}
use lib.IntN.{ℤ, pos}
use lib.Signed.{le_z, lt_z}
use Rattle.whole.specs.Whole.{up}
use Rattle.rules.specs.Limits.{limit, least_stake, greatest_rate, flat, not_configured, not_defaulted}
use Rattle.rules.specs.Books.{Books}
use Rattle.rules.specs.Calls.{Account, Operation, Call, Stake, Withdraw, Pay, Reserve, Claim, Rate, Pause, Unpause, PayoutCaller, Unknown}
use Rattle.rules.specs.Answers.{Plan, refused, does, ◌refuses◌else◌, enact, not_by, Malformed, Paused, NoPayer, NotAllowed, InvalidInput, NoRegistry, InvalidTransition, InsufficientBalance, OverLimit, TableFull}
use Rattle.rules.specs.Stakes.{staked_row, no_stake_room, stake, overdrawn, yield_due, unstake}
use Rattle.rules.specs.Payouts.{as_caller, payable, loss_over, pay_out, grantable, granted_row, no_offer_room, reserve_payout, cover_of, claimable, claim_payout}
use Rattle.rules.specs.Settings.{as_admin, bank_all, accruals_fit, set_yield_rate, set_paused, set_payout_caller}
use Rattle.rules.specs.Step.{malformed, plan_of, step}

abbrev code_of : Plan → ℕ
code_of (refused k) = k
code_of (does first second one two after) = 0

pub record Coded (p : Plan) : Type 0 where
  pub most : code_of p ≤ 11

done_coded : (first second : ℤ) → {one two : _} {after : Books} → Coded (does first second one two after)
done_coded first second = record { most = omega arith }

either : (t : Bool) (p q : Plan) → Coded p → Coded q → Coded (cond t p q)
either true p q h i = h
either false p q h i = i

rung : (t : Bool) (k : ℕ) (p : Plan) → leb k 11 ≡ true → Coded p → Coded (t refuses k else p)
rung t k p e h = either t (refused k) p (record { most = leb-true k 11 e }) h

module _ (b : Books) (signer : Account) where
  caller-coded : (amount : ℤ) (p : Plan) → Coded p → Coded (as_caller b signer amount p)
  caller-coded amount p h =
      rung b.settings.paused Paused _ refl
      (rung (eqb b.settings.caller.0 0) NoPayer _ refl
      (rung (not_by b.settings.caller signer) NotAllowed _ refl
      (rung (le_z amount (pos 0)) InvalidInput _ refl
      (rung (lt_z (pos limit) amount) OverLimit p refl h))))

  admin-coded : (p : Plan) → Coded p → Coded (as_admin b signer p)
  admin-coded p h = rung b.settings.paused Paused _ refl (rung (not_by b.settings.admin signer) NotAllowed p refl h)

  plan-coded : (now : ℕ) (o : Operation) → Coded (plan_of b now signer o)
  unfolding stake unstake pay_out reserve_payout claim_payout set_yield_rate set_paused set_payout_caller
  plan-coded now (Stake c) =
      rung b.settings.paused Paused _ refl
      (rung (not_by c.staker signer) NotAllowed _ refl
      (rung (le_z c.amount (pos 0)) InvalidInput _ refl
      (rung (lt_z (pos limit) c.amount) OverLimit _ refl
      (rung (lt_z (staked_row b now c).stake (pos least_stake)) InvalidInput _ refl
      (rung (lt_z (pos limit) (staked_row b now c).stake || ltb limit (staked_row b now c).accrual) OverLimit _ refl
      (rung (no_stake_room b c) TableFull _ refl
      (done_coded _ _)))))))
  plan-coded now (Withdraw c) =
      rung (b.settings.paused && not (eqb c.pool flat)) Paused _ refl
      (rung (not_by c.staker signer) NotAllowed _ refl
      (rung (le_z c.amount (pos 0)) InvalidInput _ refl
      (rung (overdrawn b c) InsufficientBalance _ refl
      (rung (ltb limit (yield_due b now c)) OverLimit _ refl
      (done_coded _ _)))))
  plan-coded now (Pay c) =
      let paid = up (payable b c) in
      caller-coded c.amount _
      (rung (eqb c.reply not_configured) NoRegistry _ refl
      (rung (eqb c.reply not_defaulted) InvalidTransition _ refl
      (either (eqb paid 0) _ _ (done_coded _ _) (rung (loss_over b c.pool paid) OverLimit _ refl (done_coded _ _)))))
  plan-coded now (Reserve c) =
      let granted = up (grantable b c) in
      caller-coded c.amount _
      (either (eqb granted 0) _ _ (done_coded _ _)
      (rung (ltb limit (granted_row b c granted).reserved) OverLimit _ refl
      (rung (no_offer_room b c) TableFull _ refl (done_coded _ _))))
  plan-coded now (Claim c) =
      let paid = up (claimable b c) in
      caller-coded c.amount _
      (rung (eqb (cover_of b c) 0) InsufficientBalance _ refl
      (either (eqb paid 0) _ _ (done_coded _ _) (rung (loss_over b c.pool paid) OverLimit _ refl (done_coded _ _))))
  plan-coded now (Rate c) =
      admin-coded _
      (rung (lt_z (pos greatest_rate) c.rate) OverLimit _ refl
      (rung (not (accruals_fit (bank_all b now))) OverLimit _ refl
      (done_coded _ _)))
  plan-coded now Pause = rung (not_by b.settings.admin signer) NotAllowed _ refl (done_coded _ _)
  plan-coded now Unpause = rung (not_by b.settings.admin signer) NotAllowed _ refl (done_coded _ _)
  plan-coded now (PayoutCaller a) = admin-coded _ (done_coded _ _)
  plan-coded now Unknown = record { most = omega arith }

enacted : (b : Books) (p : Plan) → Coded p → (enact b p).answer.code ≤ 11
enacted b (refused k) h = h.most
enacted b (does first second one two after) h = h.most

pub step-coded : (b : Books) (c : Call) → (step b c).answer.code ≤ 11
unfolding step
step-coded b c =
    enacted b _ (rung (malformed c) Malformed (plan_of b c.now c.signer c.operation) refl (plan-coded b c.signer c.now c.operation))
