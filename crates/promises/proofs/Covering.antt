-- A covered pool stays covered, as long as no withdrawal and no direct payout takes effect there.
use mathlib.Core.Path.{◌≡◌, refl, sym, ap}
use mathlib.Core.Bool.{true, false}
use mathlib.Core.List.{List, [], ◌∷◌}
use Prim.Native.Nat.{ℕ}
use native.Mathlib.Omega.{arith}
use borrow.Author.Tests.{eqb-true}
use lib.Dec.{eqb}
use lib.IntN.{pos}
use Rattle.whole.specs.Whole.{up}
use Rattle.whole.proofs.Linear.{whole, sum, dif}
use Rattle.rules.specs.Table.{all}
use Rattle.rules.specs.Books.{Books, balance_of, unpaid_of}
use Rattle.rules.specs.Answers.{enact}
use Rattle.rules.specs.Payouts.{claimable, after_loss}
use Rattle.rules.specs.Step.{field_tests, plan_of, step}
use Rattle.rules.proofs.Tests.{nth, pool-read, number_read}
use Rattle.rules.specs.inner.Facts.{WellFormed}
use Rattle.rules.proofs.Ladders.{stake-cases, reserve-cases, claim-cases}
use Rattle.rules.proofs.Shapes.{step-cases}
use Rattle.rules.proofs.Payable.{granting, claimed-is, cover-part}
use Rattle.rules.proofs.Pools.{balance-stays, unpaid-stays}
use Rattle.rules.proofs.Kept.{step-formed}
use Rattle.promises.specs.Calls.{Account, StakeCall, ReserveCall, ClaimCall, Operation, Call, Stake, Withdraw, Pay, Reserve, Claim, Rate, Pause, Unpause, PayoutCaller, Unknown}
use Rattle.promises.specs.Reach.{Reach, reach_of, holds, Alone}
use Rattle.promises.specs.Histories.{run}
use Rattle.promises.specs.Claims.{Covered, takes_out, Quiet}
use Rattle.promises.proofs.Pools.{has-pools, loss-has-pools, balance-put, unpaid-put}
use Rattle.promises.proofs.Reached.{either, plan-alone}

module _ (p : ℕ) (b : Books) (w : WellFormed b) (h : Covered b p) where
  -- both figures of the pool out of reach
  untouched : (r : Reach) {x : Books} → Alone r b x → holds r.balance p 0 ≡ false → holds r.unpaid p 0 ≡ false → Covered x p
  untouched r a e f = rw (a.balance p e, a.unpaid p f) h

  stake-covered : (now : ℕ) (signer : Account) (c : StakeCall) → all (field_tests (Stake c)) ≡ true → eqb c.pool p ≡ true → Covered (enact b (plan_of b now signer (Stake c))).books p
  stake-covered now signer c t e =
      stake-cases b now signer c (λ pl. Covered (enact b pl).books p) (λ k. h) (λ d.
      let s : p ≡ c.pool = sym (eqb-true c.pool p e) in
      let f = ap (balance_of b) s in
      let some = d.some in
      rw (balance-put b c.pool p _ _ (has-pools b w) (nth _ t 0) s, unpaid-stays b _ c.pool _ p)
      (omega (arith, whole, h, f, some, sum (balance_of b c.pool) c.amount)))

  reserve-covered : (now : ℕ) (signer : Account) (c : ReserveCall) → all (field_tests (Reserve c)) ≡ true → eqb c.pool p ≡ true → Covered (enact b (plan_of b now signer (Reserve c))).books p
  reserve-covered now signer c t e =
      reserve-cases b signer c (λ pl. Covered (enact b pl).books p) (λ k. h) h (λ d.
      let s : p ≡ c.pool = sym (eqb-true c.pool p e) in
      rw (unpaid-put b c.pool p _ _ (has-pools b w) (nth _ t 0) s, balance-stays b _ c.pool _ p, s) (granting b signer c d).room)

  claim-covered : (now : ℕ) (signer : Account) (c : ClaimCall) → all (field_tests (Claim c)) ≡ true → eqb c.pool p ≡ true → Covered (enact b (plan_of b now signer (Claim c))).books p
  claim-covered now signer c t e =
      claim-cases b signer c (λ pl. Covered (enact b pl).books p) (λ k. h) h (λ d.
      let q = pool-read c.pool (nth _ t 0) in
      let s : p ≡ c.pool = sym (eqb-true c.pool p e) in
      let n = up (claimable b c) in
      let f = ap (balance_of b) s in
      let u = ap (unpaid_of b) s in
      let part = cover-part b w c.pool c.offer (omega arith) (number_read c.offer.0 (nth _ t 1)).word in
      rw (unpaid-put (after_loss b c.pool n) c.pool p _ _ (loss-has-pools b c.pool n (has-pools b w)) (nth _ t 0) s, balance-stays (after_loss b c.pool n) _ c.pool _ p, balance-put b c.pool p _ _ (has-pools b w) (nth _ t 0) s)
      (omega (arith, whole, f, u, h, part, (claimed-is b signer c d).cover-most, dif (balance_of b c.pool) (pos n))))

  kept : {x : Books} → x ≡ b → Covered x p
  kept {x} e = rw e h

  plan-covered : (now : ℕ) (signer : Account) (o : Operation) → all (field_tests o) ≡ true → (takes_out p o ≡ true → (enact b (plan_of b now signer o)).books ≡ b) → Covered (enact b (plan_of b now signer o)).books p
  plan-covered now signer (Stake c) t quiet =
      either (eqb c.pool p) (stake-covered now signer c t) (λ e. untouched (reach_of (Stake c)) (plan-alone b w now signer (Stake c) t) e refl)
  plan-covered now signer (Withdraw c) t quiet =
      either (eqb c.pool p) (λ e. kept (quiet e)) (λ e. untouched (reach_of (Withdraw c)) (plan-alone b w now signer (Withdraw c) t) e refl)
  plan-covered now signer (Pay c) t quiet =
      either (eqb c.pool p) (λ e. kept (quiet e)) (λ e. untouched (reach_of (Pay c)) (plan-alone b w now signer (Pay c) t) e refl)
  plan-covered now signer (Reserve c) t quiet =
      either (eqb c.pool p) (reserve-covered now signer c t) (λ e. untouched (reach_of (Reserve c)) (plan-alone b w now signer (Reserve c) t) refl e)
  plan-covered now signer (Claim c) t quiet =
      either (eqb c.pool p) (claim-covered now signer c t) (λ e. untouched (reach_of (Claim c)) (plan-alone b w now signer (Claim c) t) e e)
  plan-covered now signer (Rate c) t quiet = untouched (reach_of (Rate c)) (plan-alone b w now signer (Rate c) t) refl refl
  plan-covered now signer Pause t quiet = untouched (reach_of Pause) (plan-alone b w now signer Pause t) refl refl
  plan-covered now signer Unpause t quiet = untouched (reach_of Unpause) (plan-alone b w now signer Unpause t) refl refl
  plan-covered now signer (PayoutCaller a) t quiet = untouched (reach_of (PayoutCaller a)) (plan-alone b w now signer (PayoutCaller a) t) refl refl
  plan-covered now signer Unknown t quiet = h

  step-covered : (c : Call) → (takes_out p c.operation ≡ true → (step b c).books ≡ b) → Covered (step b c).books p
  unfolding step
  step-covered c =
      step-cases b c (λ pl. (takes_out p c.operation ≡ true → (enact b pl).books ≡ b) → Covered (enact b pl).books p) (λ k q. h) (λ s q. plan-covered c.now c.signer c.operation s.fields q)

pub run-covered : (p : ℕ) (b : Books) (calls : List Call) → WellFormed b → Quiet p b calls → Covered b p → Covered (run b calls) p
unfolding run
run-covered p b [] w q h = h
run-covered p b (c ∷ calls) w q h = run-covered p (step b c).books calls (step-formed b c w) q.1 (step-covered p b w h c q.0)
