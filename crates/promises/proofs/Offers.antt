-- What the books say was reserved and paid for an offer is what the calls granted and paid it.
use mathlib.Core.Path.{◌≡◌, refl, sym, ◌∙◌, ap}
use mathlib.Core.Bool.{Bool, true, false, cond, ◌&&◌, true≢false}
use mathlib.Core.List.{List, [], ◌∷◌}
use Prim.Native.Nat.{ℕ, ◌+◌, ◌≤◌}
use native.Mathlib.Omega.{arith}
use borrow.Author.Tests.{eqb-true, ne_eqb}
use lib.Dec.{eqb}
use lib.IntN.{pos}
use Rattle.whole.specs.Whole.{up}
use Rattle.rules.specs.Limits.{is_number}
use Rattle.rules.specs.Table.{key_of, find, all}
use Rattle.rules.specs.Books.{Books, OfferRow, offer_key, offer_gone, no_offer, offer_at, offer_row, put_offer}
use Rattle.rules.specs.Answers.{Outcome, enact}
use Rattle.rules.specs.Payouts.{grantable, granted_row, claimable, claimed_row}
use Rattle.rules.specs.Step.{field_tests, plan_of, step}
use Rattle.rules.proofs.Tests.{and_left, and_right, nth}
use Rattle.rules.specs.inner.Facts.{OfferOk, WellFormed}
use Rattle.rules.proofs.Tables.{find-put}
use Rattle.rules.proofs.Ladders.{reserve-cases, claim-cases}
use Rattle.rules.proofs.Shapes.{step-cases}
use Rattle.rules.proofs.Payable.{granting, claimed-is}
use Rattle.rules.proofs.Kept.{step-formed}
use Rattle.promises.specs.Calls.{Account, Offer, ReserveCall, ClaimCall, Operation, Call, Stake, Withdraw, Pay, Reserve, Claim, Rate, Pause, Unpause, PayoutCaller, Unknown}
use Rattle.promises.specs.Reach.{reach_of, holds, Alone}
use Rattle.promises.specs.Roles.{role_of}
use Rattle.promises.specs.Histories.{run, answers_of, firsts_of, granted_in, paid_in}
use Rattle.promises.proofs.Reached.{either, plan-alone}

-- an offer's reserved and paid sums grow by what the call grants and pays it
record Moved (pool : ℕ) (offer : Offer) (b : Books) (o : Operation) (x : Outcome) : Type 0 where
  reserved : (offer_at x.books pool offer).reserved ≡ (offer_at b pool offer).reserved + cond (holds (role_of o).grants pool offer.0) (up x.answer.first) 0
  paid : (offer_at x.books pool offer).paid ≡ (offer_at b pool offer).paid + cond (holds (role_of o).claims pool offer.0) (up x.answer.first) 0

none : (n : ℕ) → n ≡ n + 0
none n = omega arith

-- nothing, whether or not it is this offer's
nought : (t : Bool) (n : ℕ) → n ≡ n + cond t 0 0
nought true n = omega arith
nought false n = omega arith

module _ (b : Books) (w : WellFormed b) (p : ℕ) (o : Offer) (number : is_number o.0 ≡ true) where
  -- a call that changes nothing, and answers 0
  unmoved : (x : Operation) (out : Outcome) → out.books ≡ b → out.answer.first ≡ pos 0 → Moved p o b x out
  unmoved x out e f = rw (e, f) (record { reserved = nought (holds (role_of x).grants p o.0) _; paid = nought (holds (role_of x).claims p o.0) _ })

  -- a call that reaches other offers alone
  apart : (x : Operation) (out : Outcome) → Alone (reach_of x) b out.books → holds (reach_of x).offers p o.0 ≡ false → holds (role_of x).grants p o.0 ≡ false → holds (role_of x).claims p o.0 ≡ false → Moved p o b x out
  apart x out a e g q = let s = a.offers p o number e in record { reserved = rw (s, g) (none _); paid = rw (s, q) (none _) }

  -- the offer asked for is the one whose row is put, and it is found
  found : (r : OfferRow) → 1 ≤ r.reserved → (eqb r.pool p && eqb r.offer o.0) ≡ true → find offer_key (no_offer p o) (key_of p o.0) (put_offer b r) ≡ r
  found r some e =
      let x = eqb-true r.pool p (and_left _ _ e) in
      let y = eqb-true r.offer o.0 (and_right (eqb r.pool p) _ e) in
      rw (← x, ← y) (find-put offer_key offer_gone OfferOk (offer_row r.pool r.offer 0 0) r b.offers (ne_eqb r.reserved 0 (λ z. omega arith)))

  asked : (pool : ℕ) (offer : Offer) → (eqb pool p && eqb offer.0 o.0) ≡ true → offer_at b pool offer ≡ offer_at b p o
  asked pool offer e = rw (eqb-true pool p (and_left _ _ e), eqb-true offer.0 o.0 (and_right (eqb pool p) _ e))

  reserve-moved : (now : ℕ) (signer : Account) (c : ReserveCall) → all (field_tests (Reserve c)) ≡ true → Moved p o b (Reserve c) (enact b (plan_of b now signer (Reserve c)))
  reserve-moved now signer c t =
      either (eqb c.pool p && eqb c.offer.0 o.0)
      (λ e. reserve-cases b signer c (λ pl. Moved p o b (Reserve c) (enact b pl)) (λ k. unmoved (Reserve c) _ refl refl) (unmoved (Reserve c) _ refl refl) (λ h.
      let f = found (granted_row b c (up (grantable b c))) (omega (arith, (granting b signer c h).some)) e in
      let s = asked c.pool c.offer e in
      record { reserved = ap (λ (r : OfferRow). r.reserved) f ∙ rw (e, s); paid = ap (λ (r : OfferRow). r.paid) f ∙ rw s (none _) }))
      (λ e. apart (Reserve c) _ (plan-alone b w now signer (Reserve c) t) e e refl)

  claim-moved : (now : ℕ) (signer : Account) (c : ClaimCall) → all (field_tests (Claim c)) ≡ true → Moved p o b (Claim c) (enact b (plan_of b now signer (Claim c)))
  claim-moved now signer c t =
      either (eqb c.pool p && eqb c.offer.0 o.0)
      (λ e. claim-cases b signer c (λ pl. Moved p o b (Claim c) (enact b pl)) (λ k. unmoved (Claim c) _ refl refl) (unmoved (Claim c) _ refl refl) (λ h.
      let d = claimed-is b signer c h in
      let f = found (claimed_row b c (up (claimable b c))) (omega (arith, d.some, d.cover-most)) e in
      let s = asked c.pool c.offer e in
      record { reserved = ap (λ (r : OfferRow). r.reserved) f ∙ rw s (none _); paid = ap (λ (r : OfferRow). r.paid) f ∙ rw (e, s) }))
      (λ e. apart (Claim c) _ (plan-alone b w now signer (Claim c) t) e refl e)

  plan-moved : (now : ℕ) (signer : Account) (x : Operation) → all (field_tests x) ≡ true → Moved p o b x (enact b (plan_of b now signer x))
  plan-moved now signer (Reserve c) t = reserve-moved now signer c t
  plan-moved now signer (Claim c) t = claim-moved now signer c t
  plan-moved now signer (Stake c) t = apart (Stake c) _ (plan-alone b w now signer (Stake c) t) refl refl refl
  plan-moved now signer (Withdraw c) t = apart (Withdraw c) _ (plan-alone b w now signer (Withdraw c) t) refl refl refl
  plan-moved now signer (Pay c) t = apart (Pay c) _ (plan-alone b w now signer (Pay c) t) refl refl refl
  plan-moved now signer (Rate c) t = apart (Rate c) _ (plan-alone b w now signer (Rate c) t) refl refl refl
  plan-moved now signer Pause t = apart Pause _ (plan-alone b w now signer Pause t) refl refl refl
  plan-moved now signer Unpause t = apart Unpause _ (plan-alone b w now signer Unpause t) refl refl refl
  plan-moved now signer (PayoutCaller a) t = apart (PayoutCaller a) _ (plan-alone b w now signer (PayoutCaller a) t) refl refl refl
  plan-moved now signer Unknown t = unmoved Unknown _ refl refl

  step-moved : (c : Call) → Moved p o b c.operation (step b c)
  unfolding step
  step-moved c =
      step-cases b c (λ pl. Moved p o b c.operation (enact b pl)) (λ k. unmoved c.operation _ refl refl) (λ s. plan-moved c.now c.signer c.operation s.fields)

-- ---- all along

pub record Told (pool : ℕ) (offer : Offer) (b : Books) (calls : List Call) : Type 0 where
  pub reserved : (offer_at (run b calls) pool offer).reserved ≡ (offer_at b pool offer).reserved + granted_in pool offer calls (answers_of b calls)
  pub paid : (offer_at (run b calls) pool offer).paid ≡ (offer_at b pool offer).paid + paid_in pool offer calls (answers_of b calls)

pub run-told : (p : ℕ) (o : Offer) → is_number o.0 ≡ true → (b : Books) (calls : List Call) → WellFormed b → Told p o b calls
unfolding run answers_of firsts_of
run-told p o n b [] w = record { reserved = none _; paid = none _ }
run-told p o n b (c ∷ calls) w =
    let m = step-moved b w p o n c in
    let t = run-told p o n (step b c).books calls (step-formed b c w) in
    record { reserved = omega (arith, m.reserved, t.reserved); paid = omega (arith, m.paid, t.paid) }

-- ---- a number that is none is never paid: each call that names it is malformed

no-claim : (p : ℕ) (o : Offer) → is_number o.0 ≡ false → (x : Operation) → all (field_tests x) ≡ true → holds (role_of x).claims p o.0 ≡ false
no-claim p o n (Claim c) t =
    either (eqb c.pool p && eqb c.offer.0 o.0) (λ e. absurd (true≢false (sym (nth _ t 1) ∙ rw (eqb-true c.offer.0 o.0 (and_right (eqb c.pool p) _ e)) n))) (λ e. e)
no-claim p o n (Stake c) t = refl
no-claim p o n (Withdraw c) t = refl
no-claim p o n (Pay c) t = refl
no-claim p o n (Reserve c) t = refl
no-claim p o n (Rate c) t = refl
no-claim p o n Pause t = refl
no-claim p o n Unpause t = refl
no-claim p o n (PayoutCaller a) t = refl
no-claim p o n Unknown t = refl

step-not-paid : (p : ℕ) (o : Offer) → is_number o.0 ≡ false → (b : Books) (c : Call) → cond (holds (role_of c.operation).claims p o.0) (up (step b c).answer.first) 0 ≡ 0
unfolding step
step-not-paid p o n b c =
    step-cases b c (λ pl. cond (holds (role_of c.operation).claims p o.0) (up (enact b pl).answer.first) 0 ≡ 0) (λ k. omega (arith, nought (holds (role_of c.operation).claims p o.0) 0)) (λ s. rw (no-claim p o n c.operation s.fields))

pub never-paid : (p : ℕ) (o : Offer) → is_number o.0 ≡ false → (b : Books) (calls : List Call) → paid_in p o calls (answers_of b calls) ≡ 0
unfolding answers_of firsts_of
never-paid p o n b [] = refl
never-paid p o n b (c ∷ calls) = omega (arith, step-not-paid p o n b c, never-paid p o n (step b c).books calls)
