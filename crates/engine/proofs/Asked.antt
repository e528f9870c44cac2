-- What a call that is not malformed has: its fields meet their needs, operation by operation.
use mathlib.Core.Path.{◌≡◌, subst}
use mathlib.Core.Bool.{true, false}
use mathlib.Core.List.{◌∷◌}
use Prim.Native.Nat.{ℕ}
use native.Mathlib.Omega.{arith}
use borrow.Author.Tests.{leb-true, not-false}
use lib.Dec.{leb}
use lib.ListN.{get_or}
use Rattle.whole.proofs.Linear.{whole}
use Rattle.rules.specs.Limits.{last_time, is_number}
use Rattle.rules.specs.Table.{all}
use Rattle.rules.specs.declared.StakeCall.{StakeCall}
use Rattle.rules.specs.declared.PayCall.{PayCall}
use Rattle.rules.specs.declared.ReserveCall.{ReserveCall}
use Rattle.rules.specs.declared.ClaimCall.{ClaimCall}
use Rattle.rules.specs.declared.RateCall.{RateCall}
use Rattle.rules.specs.declared.Call.{Call}
use Rattle.rules.specs.declared.Operation.{Operation}
use Rattle.rules.specs.declared.Operation.TheVariants.{Stake, Withdraw, Pay, Reserve, Claim, Rate}
use Rattle.rules.specs.Step.{field_tests, malformed}
use Rattle.rules.proofs.Tests.{nth, pool-read, number_read}
use Rattle.stakes.specs.Staking.{StakeAsked}
use Rattle.settings.specs.Rates.{RateAsked}
use Rattle.payouts.specs.Payouts.{PayAsked, ReserveAsked, ClaimAsked}

-- the tests of a call that is not malformed, by place
met : (call : Call) (o : Operation) → call.operation ≡ o → malformed call ≡ false → (k : ℕ) → get_or (leb call.now last_time ∷ is_number call.signer.0 ∷ field_tests o) k true ≡ true
unfolding malformed
met call o e formed =
    subst (λ (o : Operation). (k : ℕ) → get_or (leb call.now last_time ∷ is_number call.signer.0 ∷ field_tests o) k true ≡ true) e
    (nth (leb call.now last_time ∷ is_number call.signer.0 ∷ field_tests call.operation) (not-false (all (leb call.now last_time ∷ is_number call.signer.0 ∷ field_tests call.operation)) formed))

pub stake_asked : (call : Call) (c : StakeCall) → call.operation ≡ Stake c → malformed call ≡ false → StakeAsked call.now c
stake_asked call c e formed =
    let t = met call (Stake c) e formed in
    record { time-is = leb-true call.now last_time (t 0); pool-is = pool-read c.pool (t 2); staker-is = number_read c.staker.0 (t 3) }

pub unstake_asked : (call : Call) (c : StakeCall) → call.operation ≡ Withdraw c → malformed call ≡ false → StakeAsked call.now c
unstake_asked call c e formed =
    let t = met call (Withdraw c) e formed in
    record { time-is = leb-true call.now last_time (t 0); pool-is = pool-read c.pool (t 2); staker-is = number_read c.staker.0 (t 3) }

pub pay_asked : (call : Call) (c : PayCall) → call.operation ≡ Pay c → malformed call ≡ false → PayAsked c
pay_asked call c e formed = record { pool = pool-read c.pool (met call (Pay c) e formed 2) }

pub reserve_asked : (call : Call) (c : ReserveCall) → call.operation ≡ Reserve c → malformed call ≡ false → ReserveAsked c
reserve_asked call c e formed =
    let t = met call (Reserve c) e formed in
    record { pool = pool-read c.pool (t 2); offer = number_read c.offer.0 (t 3) }

pub claim_asked : (call : Call) (c : ClaimCall) → call.operation ≡ Claim c → malformed call ≡ false → ClaimAsked c
claim_asked call c e formed =
    let t = met call (Claim c) e formed in
    record { pool = pool-read c.pool (t 2); offer = number_read c.offer.0 (t 3) }

pub rate_asked : (call : Call) (c : RateCall) → call.operation ≡ Rate c → malformed call ≡ false → RateAsked call.now c
rate_asked call c e formed =
    let t = met call (Rate c) e formed in
    record { time-is = leb-true call.now last_time (t 0); rate-is = let h = t 6 in omega (arith, whole, h) }

-- what the other operations ask, which the check finds by these
pub ruleset asked = (stake_asked, unstake_asked, pay_asked, reserve_asked, claim_asked)
