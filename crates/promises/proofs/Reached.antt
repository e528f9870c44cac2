-- Each plan stays within its operation's reach.
use mathlib.Core.Path.{◌≡◌, refl, sym, ◌∙◌}
use mathlib.Core.Bool.{Bool, true, false, true≢false}
use mathlib.Core.List.{List}
use Prim.Native.Nat.{ℕ, ◌<◌}
use borrow.Author.Tests.{eqb-false}
use lib.IntN.{ℤ}
use Rattle.whole.specs.Whole.{up}
use Rattle.rules.specs.Limits.{flat, is_number, two_to64}
use Rattle.rules.specs.Table.{key_of, find, all}
use Rattle.rules.specs.Books.{Books, StakeRow, OfferRow, stake_key, stake_gone, no_stake, stake_at, put_stake, with_stakes, with_offers, with_settings, Settings, offer_key, offer_gone, offer_at, no_offer, put_offer, balance_of}
use Rattle.rules.specs.Sharing.{shared}
use Rattle.rules.specs.Answers.{enact}
use Rattle.rules.specs.Stakes.{staked_row, unstaked_row}
use Rattle.rules.specs.Payouts.{after_loss, payable, claimable, claimed_row, grantable, granted_row}
use Rattle.rules.specs.Step.{field_tests, plan_of}
use Rattle.rules.proofs.Tests.{nth, number_read}
use Rattle.rules.proofs.Pools.{balance-stays, unpaid-stays}
use Rattle.rules.specs.inner.Facts.{StakeOk, OfferOk, WellFormed}
use Rattle.rules.proofs.Tables.{find-other}
use Rattle.rules.proofs.Ladders.{stake-cases, unstake-cases, pay-cases, reserve-cases, claim-cases, rate-cases, pause-cases, hire-cases}
use Rattle.promises.specs.Calls.{Account, Offer, Operation, Stake, Withdraw, Pay, Reserve, Claim, Rate, Pause, Unpause, PayoutCaller, Unknown}
use Rattle.promises.specs.Reach.{Part, nothing, row_of, all_of, holds, Reach, reach, reach_of, Alone}
use Rattle.promises.proofs.Pools.{balance-beside, unpaid-beside}
use Rattle.promises.proofs.Rows.{other_row, away, lowered-find, banked-find}

-- a call that concerns the pool or the row, and one that does not
pub either : {P : Type 0} (t : Bool) → (t ≡ true → P) → (t ≡ false → P) → P
either true f g = f refl
either false f g = g refl

-- books that stay are left alone
pub same : (r : Reach) (b : Books) → Alone r b b
same r b = record { stakes = λ p a n e. refl; offers = λ p o n e. refl; balance = λ p e. refl; unpaid = λ p e. refl; settings = λ e. refl; rooms = refl }

-- ---- what is written

abbrev StakesKept : Books → Part → List StakeRow → Type 0
StakesKept b part rows = (p : ℕ) (a : Account) → is_number a.0 ≡ true → holds part p a.0 ≡ false → find stake_key (no_stake p a) (key_of p a.0) rows ≡ stake_at b p a

stakes-written : (b : Books) (part : Part) (rows : List StakeRow) (pool : ℕ) (balance : ℤ) → StakesKept b part rows → Alone (reach part nothing (all_of pool) nothing false) b (with_stakes b rows pool balance)
stakes-written b part rows pool balance kept = record {
  stakes = kept;
  offers = λ p o n e. refl;
  balance = λ p e. balance-beside b pool p rows balance e;
  unpaid = λ p e. unpaid-stays b rows pool balance p;
  settings = λ e. refl;
  rooms = refl;
}

abbrev OffersKept : Books → Part → List OfferRow → Type 0
OffersKept b part rows = (p : ℕ) (o : Offer) → is_number o.0 ≡ true → holds part p o.0 ≡ false → find offer_key (no_offer p o) (key_of p o.0) rows ≡ offer_at b p o

offers-written : (b : Books) (part : Part) (rows : List OfferRow) (pool unpaid : ℕ) → OffersKept b part rows → Alone (reach nothing part nothing (all_of pool) false) b (with_offers b rows pool unpaid)
offers-written b part rows pool unpaid kept = record {
  stakes = λ p a n e. refl;
  offers = kept;
  balance = λ p e. balance-stays b rows pool unpaid p;
  unpaid = λ p e. unpaid-beside b pool p rows unpaid e;
  settings = λ e. refl;
  rooms = refl;
}

both-written : {b x y : Books} (stakes offers balance unpaid : Part) → Alone (reach stakes nothing balance nothing false) b x → Alone (reach nothing offers nothing unpaid false) x y → Alone (reach stakes offers balance unpaid false) b y
both-written stakes offers balance unpaid u v = record {
  stakes = λ p a n e. v.stakes p a n refl ∙ u.stakes p a n e;
  offers = λ p o n e. v.offers p o n e ∙ u.offers p o n refl;
  balance = λ p e. v.balance p refl ∙ u.balance p e;
  unpaid = λ p e. v.unpaid p e ∙ u.unpaid p refl;
  settings = λ e. v.settings refl ∙ u.settings refl;
  rooms = v.rooms ∙ u.rooms;
}

settled : (b : Books) (part : Part) (rows : List StakeRow) (s : Settings) → StakesKept b part rows → Alone (reach part nothing nothing nothing true) b (with_settings b rows s)
settled b part rows s kept = record { stakes = kept; offers = λ p o n e. refl; balance = λ p e. refl; unpaid = λ p e. refl; settings = λ e. absurd (true≢false e); rooms = refl }

module _ (b : Books) (w : WellFormed b) where
  -- a row put hides no other
  put-stake : (r : StakeRow) → r.account < two_to64 → StakesKept b (row_of r.pool r.account) (put_stake b r)
  put-stake r h p account n e =
      find-other stake_key stake_gone StakeOk (no_stake p account) r (key_of p account.0) 0 b.stakes w.stake-rows (other_row r.pool p r.account account.0 h (number_read account.0 n).word e)

  put-offer : (r : OfferRow) → r.offer < two_to64 → OffersKept b (row_of r.pool r.offer) (put_offer b r)
  put-offer r h p offer n e =
      find-other offer_key offer_gone OfferOk (no_offer p offer) r (key_of p offer.0) 0 b.offers w.offer-rows (other_row r.pool p r.offer offer.0 h (number_read offer.0 n).word e)

  staked : (r : StakeRow) (balance : ℤ) → r.account < two_to64 → Alone (reach (row_of r.pool r.account) nothing (all_of r.pool) nothing false) b (with_stakes b (put_stake b r) r.pool balance)
  staked r balance h = stakes-written b (row_of r.pool r.account) (put_stake b r) r.pool balance (put-stake r h)

  -- a loss touches no row of another pool
  loss-alone : (pool loss : ℕ) → Alone (reach (all_of pool) nothing (all_of pool) nothing false) b (after_loss b pool loss)
  unfolding shared
  loss-alone pool loss =
      stakes-written b (all_of pool) (shared pool loss (up (balance_of b pool)) b.stakes) pool _
      (λ p account n e. lowered-find pool (key_of p account.0) (away pool p account.0 (number_read account.0 n).word (λ s. eqb-false pool p e (sym s))) (no_stake p account) 0 b.stakes _ w.stake-rows)

  -- ---- every operation

  pub plan-alone : (now : ℕ) (signer : Account) (o : Operation) → all (field_tests o) ≡ true → Alone (reach_of o) b (enact b (plan_of b now signer o)).books
  plan-alone now signer (Stake c) t =
      stake-cases b now signer c (λ p. Alone (reach_of (Stake c)) b (enact b p).books) (λ k. same (reach_of (Stake c)) b)
      (λ d. staked (staked_row b now c) _ (number_read c.staker.0 (nth _ t 1)).word)
  plan-alone now signer (Withdraw c) t =
      unstake-cases b now signer c (λ p. Alone (reach_of (Withdraw c)) b (enact b p).books) (λ k. same (reach_of (Withdraw c)) b)
      (λ d. staked (unstaked_row b now c) _ (number_read c.staker.0 (nth _ t 1)).word)
  plan-alone now signer (Pay c) t =
      pay-cases b signer c (λ p. Alone (reach_of (Pay c)) b (enact b p).books) (λ k. same (reach_of (Pay c)) b) (same (reach_of (Pay c)) b) (λ d. loss-alone c.pool (up (payable b c)))
  plan-alone now signer (Reserve c) t =
      reserve-cases b signer c (λ p. Alone (reach_of (Reserve c)) b (enact b p).books) (λ k. same (reach_of (Reserve c)) b) (same (reach_of (Reserve c)) b) (λ d.
      let r = granted_row b c (up (grantable b c)) in
      offers-written b (row_of c.pool c.offer.0) (put_offer b r) c.pool _ (put-offer r (number_read c.offer.0 (nth _ t 1)).word))
  plan-alone now signer (Claim c) t =
      claim-cases b signer c (λ p. Alone (reach_of (Claim c)) b (enact b p).books) (λ k. same (reach_of (Claim c)) b) (same (reach_of (Claim c)) b) (λ d.
      let n = up (claimable b c) in
      let r = claimed_row b c n in
      both-written (all_of c.pool) (row_of c.pool c.offer.0) (all_of c.pool) (all_of c.pool) (loss-alone c.pool n)
      (offers-written (after_loss b c.pool n) (row_of c.pool c.offer.0) (put_offer b r) c.pool _ (put-offer r (number_read c.offer.0 (nth _ t 1)).word)))
  plan-alone now signer (Rate c) t =
      rate-cases b now signer c (λ p. Alone (reach_of (Rate c)) b (enact b p).books) (λ k. same (reach_of (Rate c)) b)
      (λ d. settled b (all_of flat) _ _ (λ p a n e. banked-find b now (key_of p a.0) (away flat p a.0 (number_read a.0 n).word (λ s. eqb-false flat p e (sym s))) (no_stake p a) 0 b.stakes w.stake-rows))
  plan-alone now signer Pause t = pause-cases b signer true (λ p. Alone (reach_of Pause) b (enact b p).books) (λ k. same (reach_of Pause) b) (settled b nothing b.stakes _ (λ p a n e. refl))
  plan-alone now signer Unpause t = pause-cases b signer false (λ p. Alone (reach_of Unpause) b (enact b p).books) (λ k. same (reach_of Unpause) b) (settled b nothing b.stakes _ (λ p a n e. refl))
  plan-alone now signer (PayoutCaller a) t = hire-cases b signer a (λ p. Alone (reach_of (PayoutCaller a)) b (enact b p).books) (λ k. same (reach_of (PayoutCaller a)) b) (settled b nothing b.stakes _ (λ p a n e. refl))
  plan-alone now signer Unknown t = same (reach_of Unknown) b
