-- Books that are well formed stay so, by every call.
use mathlib.Core.Path.{◌≡◌, refl, sym, ◌∙◌, ap}
use mathlib.Core.Bool.{Bool, true, false, not, ◌&&◌}
use mathlib.Core.List.{List}
use Prim.Native.Nat.{ℕ, ◌+◌, ◌≤◌, ◌<◌}
use native.Mathlib.Omega.{arith}
use borrow.Author.Tests.{ltb-false, leb-false, not-false}
use lib.Dec.{ltb, leb}
use lib.IntN.{ℤ, pos, ◌+ℤ◌, ◌-ℤ◌}
use lib.Signed.{lt_z, ◌<ℤ◌}
use lib.ListN.{length}
use Rattle.whole.specs.Whole.{up}
use Rattle.whole.proofs.Linear.{whole, sum, dif, abs}
use Rattle.rules.specs.Limits.{limit, last_time, pools}
use Rattle.rules.specs.Table.{find, has, put, all}
use Rattle.rules.specs.Books.{Books, StakeRow, OfferRow, stake_key, stake_gone, no_stake, offer_key, offer_gone, no_offer, offer_at, balance_of}
use Rattle.rules.specs.Sharing.{shared}
use Rattle.rules.specs.Calls.{Account, StakeCall, PayCall, ReserveCall, ClaimCall, Operation, Call, Stake, Withdraw, Pay, Reserve, Claim, Rate, Pause, Unpause, PayoutCaller, Unknown}
use Rattle.rules.specs.Answers.{enact}
use Rattle.rules.specs.Stakes.{old_stake, staked_row, no_stake_room, stake, unstaked_row, overdrawn, unstake}
use Rattle.rules.specs.Payouts.{after_loss, loss_over, payable, pay_out, grantable, granted_row, no_offer_room, reserve_payout, claimable, claimed_row, claim_payout}
use Rattle.rules.specs.Settings.{set_paused}
use Rattle.rules.specs.Step.{field_tests, plan_of, step}
use Rattle.rules.specs.Formed.{well_formed}
use Rattle.rules.proofs.Tests.{or_left, or_right, nth, pool-read, number_read}
use Rattle.rules.specs.inner.Facts.{WellFormed, stake_sum}
use Rattle.rules.proofs.Pools.{unpaid-stays}
use Rattle.rules.proofs.Tables.{has-none, put-length, put-length-has}
use Rattle.rules.proofs.Ladders.{stake-cases, unstake-cases, pay-cases, reserve-cases, claim-cases, pause-cases, hire-cases}
use Rattle.rules.proofs.Writes.{stakes-formed, settings-formed, old-stake, stake-put, old-offer, offer-put}
use Rattle.rules.proofs.Shapes.{step-cases}
use Rattle.rules.proofs.Payable.{paying, granting, claimed-is, cover-part}
use Rattle.rules.proofs.Rates.{rate-formed}
use Rattle.rules.proofs.Decided.{formed-read, formed-made}
use Rattle.rules.proofs.Losses.{shared-sum, shared-other, shared-length, shared-rows}

-- ---- room

module _ {A : Type 0} (key : A → ℕ) (gone : A → Bool) (r : A) (rows : List A) (room : ℕ) (h : length rows ≤ room) where
  -- where there is a row for the key, or a free one, the row put has its place
  pub room_for : (not (has key (key r) rows) && leb room (length rows)) ≡ false → length (put key gone r rows) ≤ room
  room_for e = go (has key (key r) rows) refl e
    where
      go : (t : Bool) → has key (key r) rows ≡ t → (not t && leb room (length rows)) ≡ false → length (put key gone r rows) ≤ room
      go true f e = omega (arith, put-length-has key gone r rows f)
      go false f e = omega (arith, put-length key gone r rows, leb-false room (length rows) e)

  -- where what is found is not the row given for none
  pub room-found : (d : A) → (find key d (key r) rows ≡ d → ⊥) → length (put key gone r rows) ≤ room
  room-found d n = go (has key (key r) rows) refl
    where
      go : (t : Bool) → has key (key r) rows ≡ t → length (put key gone r rows) ≤ room
      go true f = omega (arith, put-length-has key gone r rows f)
      go false f = absurd (n (has-none key (λ (x : A). Unit {0}) d (key r) rows f))

-- ---- stake and withdraw

stake-formed : (b : Books) (now : ℕ) (signer : Account) (c : StakeCall) → now ≤ last_time → all (field_tests (Stake c)) ≡ true → WellFormed b → WellFormed (enact b (stake b now signer c)).books
unfolding no_stake_room
stake-formed b now signer c time e w =
    stake-cases b now signer c (λ p. WellFormed (enact b p).books) (λ k. w) (λ h.
    let pool = pool-read c.pool (nth _ e 0) in
    let number = number_read c.staker.0 (nth _ e 1) in
    let r = staked_row b now c in
    let old = old_stake b c in
    let top = or_left (lt_z (pos limit) r.stake) (ltb limit r.accrual) h.limits in
    let acc = ltb-false limit r.accrual (or_right (lt_z (pos limit) r.stake) (ltb limit r.accrual) h.limits) in
    let low = h.least in
    stake-put b w c.pool c.staker pool number (old.stake +ℤ c.amount) now r.accrual _
    time (omega (arith, whole, top, low, abs (old.stake +ℤ c.amount))) acc
    (room_for stake_key stake_gone r b.stakes b.rooms.stakes w.stake-room.enough h.room)
    (omega (arith, whole, sum (balance_of b c.pool) c.amount, sum old.stake c.amount, sum (balance_of b c.pool +ℤ c.amount) old.stake, sum (balance_of b c.pool) (old.stake +ℤ c.amount))))

unstake-formed : (b : Books) (now : ℕ) (signer : Account) (c : StakeCall) → now ≤ last_time → all (field_tests (Withdraw c)) ≡ true → WellFormed b → WellFormed (enact b (unstake b now signer c)).books
unfolding overdrawn
unstake-formed b now signer c time e w =
    unstake-cases b now signer c (λ p. WellFormed (enact b p).books) (λ k. w) (λ h.
    let pool = pool-read c.pool (nth _ e 0) in
    let number = number_read c.staker.0 (nth _ e 1) in
    let old = old_stake b c in
    let o = old-stake b w c.pool c.staker number.word in
    let some = h.some in
    let enough = h.enough in
    stake-put b w c.pool c.staker pool number (old.stake -ℤ c.amount) now 0 _
    time (omega (arith, whole, some, enough, o.size, abs old.stake, abs (old.stake -ℤ c.amount), dif old.stake c.amount)) (omega arith)
    (room-found stake_key stake_gone (unstaked_row b now c) b.stakes b.rooms.stakes w.stake-room.enough (no_stake c.pool c.staker)
    (λ (e : old ≡ no_stake c.pool c.staker). let z = ap (λ (x : StakeRow). x.stake) e in omega (arith, whole, some, enough, z)))
    (omega (arith, whole, dif (balance_of b c.pool) c.amount, dif old.stake c.amount, sum (balance_of b c.pool -ℤ c.amount) old.stake, sum (balance_of b c.pool) (old.stake -ℤ c.amount))))

-- ---- losses

pub loss-formed : (b : Books) (pool loss : ℕ) → pool < pools → pos 0 <ℤ balance_of b pool → loss_over b pool loss ≡ false → WellFormed b → WellFormed (after_loss b pool loss)
unfolding loss_over
loss-formed b pool loss h t f w =
    let e = w.balance-is pool h in
    let t' : pos 0 <ℤ stake_sum pool b.stakes = rw (← e) t in
    stakes-formed b w (shared pool loss (up (balance_of b pool)) b.stakes) pool (balance_of b pool -ℤ pos loss) h
    (shared-rows pool loss (up (balance_of b pool)) b.stakes w.stake-rows (not-false _ f))
    (omega (arith, shared-length pool loss (up (balance_of b pool)) b.stakes, w.stake-room.enough))
    (ap (λ (z : ℤ). z -ℤ pos loss) e ∙ sym (shared-sum pool loss (up (balance_of b pool)) b.stakes t'))
    (λ p n. shared-other pool loss (up (balance_of b pool)) p b.stakes n)

pay-formed : (b : Books) (signer : Account) (c : PayCall) → all (field_tests (Pay c)) ≡ true → WellFormed b → WellFormed (enact b (pay_out b signer c)).books
pay-formed b signer c e w =
    pay-cases b signer c (λ p. WellFormed (enact b p).books) (λ k. w) w (λ h.
    let pool = pool-read c.pool (nth _ e 0) in
    let p = paying b signer c h in
    loss-formed b c.pool (up (payable b c)) (omega arith) (omega (arith, whole, p.some, p.most)) h.limits w)

-- ---- offers

reserve-formed : (b : Books) (signer : Account) (c : ReserveCall) → all (field_tests (Reserve c)) ≡ true → WellFormed b → WellFormed (enact b (reserve_payout b signer c)).books
unfolding no_offer_room
reserve-formed b signer c e w =
    reserve-cases b signer c (λ p. WellFormed (enact b p).books) (λ k. w) w (λ h.
    let pool = pool-read c.pool (nth _ e 0) in
    let number = number_read c.offer.0 (nth _ e 1) in
    let n = up (grantable b c) in
    let old = offer_at b c.pool c.offer in
    let o = old-offer b w.offer-rows c.pool c.offer number.word in
    let g = granting b signer c h in
    offer-put b w c.pool c.offer pool number _ _
    (omega (arith, g.some)) _
    (ltb-false limit (old.reserved + n) h.limits) (omega (arith, o.covered))
    (room_for offer_key offer_gone (granted_row b c n) b.offers b.rooms.offers w.offer-room.enough h.room)
    (omega (arith, o.covered)))

claim-formed : (b : Books) (signer : Account) (c : ClaimCall) → all (field_tests (Claim c)) ≡ true → WellFormed b → WellFormed (enact b (claim_payout b signer c)).books
claim-formed b signer c e w =
    claim-cases b signer c (λ p. WellFormed (enact b p).books) (λ k. w) w (λ h.
    let pool = pool-read c.pool (nth _ e 0) in
    let number = number_read c.offer.0 (nth _ e 1) in
    let n = up (claimable b c) in
    let old = offer_at b c.pool c.offer in
    let o = old-offer b w.offer-rows c.pool c.offer number.word in
    let s = claimed-is b signer c h in
    let part = cover-part b w c.pool c.offer (omega arith) number.word in
    let w' = loss-formed b c.pool n (omega arith) (omega (arith, whole, s.some, s.balance-most)) h.limits w in
    offer-put (after_loss b c.pool n) w' c.pool c.offer pool number _ _
    (omega (arith, s.some, s.cover-most)) _
    o.most (omega (arith, s.cover-most, o.covered))
    (room-found offer_key offer_gone (claimed_row b c n) b.offers b.rooms.offers w.offer-room.enough (no_offer c.pool c.offer)
    (λ (e : old ≡ no_offer c.pool c.offer). let z = ap (λ (x : OfferRow). x.reserved) e in omega (arith, z, s.some, s.cover-most)))
    (omega (arith, s.cover-most, o.covered, part, unpaid-stays b (shared c.pool n (up (balance_of b c.pool)) b.stakes) c.pool (balance_of b c.pool -ℤ pos n) c.pool)))

-- ---- every call

pause-formed : (b : Books) (signer : Account) (to : Bool) → WellFormed b → WellFormed (enact b (set_paused b signer to)).books
pause-formed b signer to w =
    pause-cases b signer to (λ p. WellFormed (enact b p).books) (λ k. w)
    (settings-formed b w b.stakes _ w.stake-rows refl (λ p. refl) w.admin w.caller w.rate-most)

plan-formed : (b : Books) (now : ℕ) (signer : Account) (o : Operation) → now ≤ last_time → all (field_tests o) ≡ true → WellFormed b → WellFormed (enact b (plan_of b now signer o)).books
plan-formed b now signer (Stake c) t e w = stake-formed b now signer c t e w
plan-formed b now signer (Withdraw c) t e w = unstake-formed b now signer c t e w
plan-formed b now signer (Pay c) t e w = pay-formed b signer c e w
plan-formed b now signer (Reserve c) t e w = reserve-formed b signer c e w
plan-formed b now signer (Claim c) t e w = claim-formed b signer c e w
plan-formed b now signer (Rate c) t e w = rate-formed b now signer c t w
plan-formed b now signer Pause t e w = pause-formed b signer true w
plan-formed b now signer Unpause t e w = pause-formed b signer false w
plan-formed b now signer (PayoutCaller a) t e w =
    hire-cases b signer a (λ p. WellFormed (enact b p).books) (λ k. w)
    (settings-formed b w b.stakes _ w.stake-rows refl (λ p. refl) w.admin (number_read a.0 (nth _ e 1)).word w.rate-most)
plan-formed b now signer Unknown t e w = w

pub step-formed : (b : Books) (c : Call) → WellFormed b → WellFormed (step b c).books
unfolding step
step-formed b c w =
    step-cases b c (λ p. WellFormed (enact b p).books) (λ k. w) (λ s. plan-formed b c.now c.signer c.operation s.time s.fields w)

-- the same of the test
pub formed-kept : (b : Books) (c : Call) → well_formed b ≡ true → well_formed (step b c).books ≡ true
formed-kept b c e = formed-made (step b c).books (step-formed b c (formed-read b e))
