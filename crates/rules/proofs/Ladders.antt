-- Each operation by cases: a law of its plan follows from the law of every refusal and of what it does, where each test of the
-- ladder is known to have failed. No later file opens a ladder.
use mathlib.Core.Path.{◌≡◌, refl}
use mathlib.Core.Bool.{Bool, true, false, not, cond, ◌&&◌}
use Prim.Native.Nat.{ℕ, ◌-◌}
use lib.Dec.{eqb}
use lib.IntN.{ℤ, pos}
use Rattle.whole.specs.Whole.{up}
use Rattle.rules.specs.Limits.{flat, not_configured, not_defaulted}
use Rattle.rules.specs.Books.{Books, settings, with_settings}
use Rattle.rules.specs.Calls.{Account, StakeCall, PayCall, ReserveCall, ClaimCall, RateCall}
use Rattle.rules.specs.Answers.{Plan, refused, does, answers, ◌refuses◌else◌, not_by, no_transfer, transfer_in, transfer_out}
use Rattle.rules.specs.Stakes.{after_stake, stake, yield_due, after_unstake, unstake}
use Rattle.rules.specs.Payouts.{as_caller, after_loss, payable, pay_out, grantable, after_grant, reserve_payout, cover_of, claimable, after_claim, claim_payout}
use Rattle.rules.specs.Settings.{as_admin, bank_all, set_yield_rate, set_paused, set_payout_caller}
use Rattle.rules.specs.inner.Passed.{StakeDone, UnstakeDone, Called, PayDone, ReserveDone, ClaimDone, RateDone}

-- every refusal satisfies Q
abbrev pub Refusals : (Plan → Type 0) → Type 0
Refusals Q = (k : ℕ) → Q (refused k)

module _ (Q : Plan → Type 0) (no-effect : Refusals Q) where
  pub rung : (t : Bool) (k : ℕ) (p : Plan) → (t ≡ false → Q p) → Q (t refuses k else p)
  rung true k p f = no-effect k
  rung false k p f = f refl

  pub either : (t : Bool) (p q : Plan) → (t ≡ true → Q p) → (t ≡ false → Q q) → Q (cond t p q)
  either true p q f g = f refl
  either false p q f g = g refl

-- ---- stake and withdraw

pub stake-cases : (b : Books) (now : ℕ) (signer : Account) (c : StakeCall) (Q : Plan → Type 0) → Refusals Q
    → (StakeDone b now c → Q (does (pos 0) (pos 0) (transfer_in c.staker (up c.amount)) no_transfer (after_stake b now c)))
    → Q (stake b now signer c)
unfolding stake
stake-cases b now signer c Q r f =
    rung Q r b.settings.paused _ _ (λ e3. rung Q r (not_by c.staker signer) _ _ (λ e5. rung Q r _ _ _ (λ e6. rung Q r _ _ _ (λ e10. rung Q r _ _ _ (λ m6. rung Q r _ _ _ (λ l10. rung Q r _ _ _ (λ e11.
    f (record { some = e6; most = e10; least = m6; limits = l10; room = e11 }))))))))

pub unstake-cases : (b : Books) (now : ℕ) (signer : Account) (c : StakeCall) (Q : Plan → Type 0) → Refusals Q
    → (UnstakeDone b now c → Q (does (pos 0) (pos 0) (transfer_out c.staker (up c.amount)) (cond (eqb (yield_due b now c) 0) no_transfer (transfer_out c.staker (yield_due b now c))) (after_unstake b now c)))
    → Q (unstake b now signer c)
unfolding unstake
unstake-cases b now signer c Q r f =
    rung Q r (b.settings.paused && not (eqb c.pool flat)) _ _ (λ e3. rung Q r (not_by c.staker signer) _ _ (λ e5. rung Q r _ _ _ (λ e6. rung Q r _ _ _ (λ e9. rung Q r _ _ _ (λ e10.
    f (record { some = e6; enough = e9; limits = e10 }))))))

-- ---- the payout caller's

pub caller-cases : (b : Books) (signer : Account) (amount : ℤ) (p : Plan) (Q : Plan → Type 0) → Refusals Q
    → (Called b signer amount → Q p)
    → Q (as_caller b signer amount p)
caller-cases b signer amount p Q r f =
    rung Q r b.settings.paused _ _ (λ e3. rung Q r (eqb b.settings.caller.0 0) _ _ (λ e4. rung Q r (not_by b.settings.caller signer) _ _ (λ e5. rung Q r _ _ _ (λ e6. rung Q r _ _ _ (λ e10.
    f (record { running = e3; hired = e4; signed = e5; some = e6; most = e10 }))))))

pub pay-cases : (b : Books) (signer : Account) (c : PayCall) (Q : Plan → Type 0) → Refusals Q
    → Q (answers (pos 0) (pos 0) b)
    → (PayDone b signer c → Q (does (pos (up (payable b c))) (pos 0) (transfer_out c.beneficiary (up (payable b c))) no_transfer (after_loss b c.pool (up (payable b c)))))
    → Q (pay_out b signer c)
unfolding pay_out
pay-cases b signer c Q r z f =
    caller-cases b signer c.amount _ Q r (λ h. rung Q r (eqb c.reply not_configured) _ _ (λ e7. rung Q r (eqb c.reply not_defaulted) _ _ (λ e8. either Q r _ _ _ (λ t. z) (λ t. rung Q r _ _ _ (λ e10.
    f (record { called = h; positive = t; limits = e10 }))))))

pub reserve-cases : (b : Books) (signer : Account) (c : ReserveCall) (Q : Plan → Type 0) → Refusals Q
    → Q (answers (pos 0) (pos 0) b)
    → (ReserveDone b signer c → Q (answers (pos (up (grantable b c))) (pos 0) (after_grant b c (up (grantable b c)))))
    → Q (reserve_payout b signer c)
unfolding reserve_payout
reserve-cases b signer c Q r z f =
    caller-cases b signer c.amount _ Q r (λ h. either Q r _ _ _ (λ t. z) (λ t. rung Q r _ _ _ (λ e10. rung Q r _ _ _ (λ e11.
    f (record { called = h; positive = t; limits = e10; room = e11 })))))

pub claim-cases : (b : Books) (signer : Account) (c : ClaimCall) (Q : Plan → Type 0) → Refusals Q
    → Q (answers (pos 0) (pos (cover_of b c)) b)
    → (ClaimDone b signer c → Q (does (pos (up (claimable b c))) (pos (cover_of b c - up (claimable b c))) (transfer_out c.lender (up (claimable b c))) no_transfer (after_claim b c (up (claimable b c)))))
    → Q (claim_payout b signer c)
unfolding claim_payout
claim-cases b signer c Q r z f =
    caller-cases b signer c.amount _ Q r (λ h. rung Q r _ _ _ (λ e9. either Q r _ _ _ (λ t. z) (λ t. rung Q r _ _ _ (λ e10.
    f (record { called = h; covered = e9; positive = t; limits = e10 })))))

-- ---- the admin's

pub admin-cases : (b : Books) (signer : Account) (p : Plan) (Q : Plan → Type 0) → Refusals Q → Q p → Q (as_admin b signer p)
admin-cases b signer p Q r f = rung Q r b.settings.paused _ _ (λ e3. rung Q r (not_by b.settings.admin signer) _ _ (λ e5. f))

pub rate-cases : (b : Books) (now : ℕ) (signer : Account) (c : RateCall) (Q : Plan → Type 0) → Refusals Q
    → (RateDone b now c → Q (answers (pos 0) (pos 0) (with_settings b (bank_all b now) (settings b.settings.admin b.settings.caller b.settings.paused (up c.rate)))))
    → Q (set_yield_rate b now signer c)
unfolding set_yield_rate
rate-cases b now signer c Q r f = admin-cases b signer _ Q r (rung Q r _ _ _ (λ e10. rung Q r _ _ _ (λ l10. f (record { most = e10; limits = l10 }))))

pub pause-cases : (b : Books) (signer : Account) (to : Bool) (Q : Plan → Type 0) → Refusals Q
    → Q (answers (pos 0) (pos 0) (with_settings b b.stakes (settings b.settings.admin b.settings.caller to b.settings.rate)))
    → Q (set_paused b signer to)
unfolding set_paused
pause-cases b signer to Q r f = rung Q r (not_by b.settings.admin signer) _ _ (λ e5. f)

pub hire-cases : (b : Books) (signer a : Account) (Q : Plan → Type 0) → Refusals Q
    → Q (answers (pos 0) (pos 0) (with_settings b b.stakes (settings b.settings.admin a b.settings.paused b.settings.rate)))
    → Q (set_payout_caller b signer a)
unfolding set_payout_caller
hire-cases b signer a Q r f = admin-cases b signer _ Q r f
