-- What each kind of write keeps of well-formed books.
use mathlib.Core.Path.{◌≡◌, refl, sym, ◌∙◌, ap}
use mathlib.Core.Bool.{true, false}
use mathlib.Core.List.{List}
use Prim.Native.Nat.{ℕ, ◌+◌, ◌-◌, ◌≤◌, ◌<◌}
use native.Mathlib.Decide.{ℕ_discrete}
use native.Mathlib.Omega.{arith}
use borrow.Author.Tests.{eqb-true, eq-eqb, ne_eqb}
use lib.Dec.{eqb}
use lib.IntN.{ℤ, pos, negsuc, nat_abs, ◌+ℤ◌}
use lib.ListN.{length, length-set}
use Rattle.whole.proofs.Linear.{whole, sum}
use Rattle.rules.specs.Limits.{limit, last_time, greatest_rate, pools, flat, two_to64}
use Rattle.rules.specs.Table.{key_of}
use Rattle.rules.specs.Books.{Books, StakeRow, OfferRow, Settings, is_zero, stake_key, stake_gone, no_stake, stake_at, stake_row, put_stake, offer_key, offer_gone, no_offer, offer_at, offer_row, put_offer, cover, balance_of, unpaid_of, with_stakes, with_offers, with_settings}
use Rattle.rules.specs.Calls.{Account, Offer}
use Rattle.rules.specs.Formed.{stake_in, cover_in}
use Rattle.rules.proofs.Tests.{cases, and_left}
use Rattle.rules.specs.inner.Facts.{Number, StakeOk, OfferOk, Rows, WellFormed, stake_sum, cover_sum}
use Rattle.rules.proofs.Pools.{balance-put, balance-beside, unpaid-stays, unpaid-put, unpaid-beside, balance-stays}
use Rattle.rules.proofs.Tables.{find-is, put-rows, put-sum}

-- ---- writes in general

module _ (b : Books) (w : WellFormed b) where
  -- stake rows, and a pool's balance
  pub stakes-formed : (rows : List StakeRow) (pool : ℕ) (balance : ℤ) → pool < pools → Rows stake_key StakeOk 0 rows → length rows ≤ b.rooms.stakes → balance ≡ stake_sum pool rows → ((p : ℕ) → (p ≡ pool → ⊥) → stake_sum p rows ≡ stake_sum p b.stakes) → WellFormed (with_stakes b rows pool balance)
  stakes-formed rows pool balance h o l e f = record {
    stake-rows = o;
    offer-rows = w.offer-rows;
    stake-room = record { some = w.stake-room.some; lent = w.stake-room.lent; enough = l };
    offer-room = w.offer-room;
    four-pools = length-set b.pools pool _ ∙ w.four-pools;
    balance-is = λ p q. go p q (ℕ_discrete p pool);
    unpaid-is = λ p q. ap pos (unpaid-stays b rows pool balance p) ∙ w.unpaid-is p q;
    admin = w.admin;
    caller = w.caller;
    rate-most = w.rate-most;
  }
    where
      go : (p : ℕ) → p < pools → Dec (p ≡ pool) → balance_of (with_stakes b rows pool balance) p ≡ stake_sum p rows
      go p q (yes i) = rw i (balance-put b rows pool balance (omega (arith, w.four-pools)) ∙ e)
      go p q (no n) = balance-beside b rows pool balance p n ∙ w.balance-is p q ∙ sym (f p n)

  -- offer rows, and a pool's unpaid sum
  pub offers-formed : (rows : List OfferRow) (pool unpaid : ℕ) → pool < pools → Rows offer_key OfferOk 0 rows → length rows ≤ b.rooms.offers → pos unpaid ≡ cover_sum pool rows → ((p : ℕ) → (p ≡ pool → ⊥) → cover_sum p rows ≡ cover_sum p b.offers) → WellFormed (with_offers b rows pool unpaid)
  offers-formed rows pool unpaid h o l e f = record {
    stake-rows = w.stake-rows;
    offer-rows = o;
    stake-room = w.stake-room;
    offer-room = record { some = w.offer-room.some; lent = w.offer-room.lent; enough = l };
    four-pools = length-set b.pools pool _ ∙ w.four-pools;
    balance-is = λ p q. balance-stays b rows pool unpaid p ∙ w.balance-is p q;
    unpaid-is = λ p q. go p q (ℕ_discrete p pool);
    admin = w.admin;
    caller = w.caller;
    rate-most = w.rate-most;
  }
    where
      go : (p : ℕ) → p < pools → Dec (p ≡ pool) → pos (unpaid_of (with_offers b rows pool unpaid) p) ≡ cover_sum p rows
      go p q (yes i) = rw i (ap pos (unpaid-put b rows pool unpaid (omega (arith, w.four-pools))) ∙ e)
      go p q (no n) = ap pos (unpaid-beside b rows pool unpaid p n) ∙ w.unpaid-is p q ∙ sym (f p n)

  -- settings, with stake rows of the same sums
  pub settings-formed : (rows : List StakeRow) (s : Settings) → Rows stake_key StakeOk 0 rows → length rows ≡ length b.stakes → ((p : ℕ) → stake_sum p rows ≡ stake_sum p b.stakes) → Number s.admin.0 → s.caller.0 < two_to64 → s.rate ≤ greatest_rate → WellFormed (with_settings b rows s)
  settings-formed rows s o l f n c h = record {
    stake-rows = o;
    offer-rows = w.offer-rows;
    stake-room = record { some = w.stake-room.some; lent = w.stake-room.lent; enough = omega (arith, w.stake-room.enough) };
    offer-room = w.offer-room;
    four-pools = w.four-pools;
    balance-is = λ p q. w.balance-is p q ∙ sym (f p);
    unpaid-is = w.unpaid-is;
    admin = n;
    caller = c;
    rate-most = h;
  }

-- ---- an account's row

zero_is : (z : ℤ) → nat_abs z ≡ 0 → z ≡ pos 0
zero_is (pos n) e = ap pos e
zero_is (negsuc n) e = absurd (omega arith)

-- the row found, or the empty row: its key, and its figures within their limits
pub record OldStake (pool : ℕ) (account : Account) (r : StakeRow) : Type 0 where
  pub its-pool : r.pool ≡ pool
  pub its-account : r.account ≡ account.0
  pub size : nat_abs r.stake ≤ limit
  pub accrued : r.accrual ≤ limit

pub old-stake : (b : Books) → WellFormed b → (pool : ℕ) (account : Account) → account.0 < two_to64 → OldStake pool account (stake_at b pool account)
old-stake b w pool account h =
    find-is stake_key StakeOk (no_stake pool account) (key_of pool account.0) 0 b.stakes (OldStake pool account) w.stake-rows
    (record { its-pool = refl; its-account = refl; size = omega arith; accrued = omega arith })
    (λ y ok e. let a = ok.number.word in let s : y.pool ≡ pool = omega arith in record { its-pool = s; its-account = omega arith; size = ok.size; accrued = ok.accrued })

module _ (b : Books) (w : WellFormed b) (pool : ℕ) (account : Account) (small : pool ≤ flat) (number : Number account.0) (s : ℤ) (since accrual : ℕ) where
  row_ok : since ≤ last_time → nat_abs s ≤ limit → accrual ≤ limit → stake_gone (stake_row pool account.0 s since accrual) ≡ false → StakeOk (stake_row pool account.0 s since accrual)
  row_ok t h k g = record {
    pool = small;
    number = number;
    kept = g;
    no-since = λ e. rw (eq-eqb (nat_abs s) 0 e);
    time = cases (is_zero s) 0 since (λ (n : ℕ). n ≤ last_time) (λ e. omega arith) (λ e. t);
    size = h;
    accrued = k;
  }

  gone-nothing : (p : ℕ) → stake_gone (stake_row pool account.0 s since accrual) ≡ true → stake_in p (stake_row pool account.0 s since accrual) ≡ pos 0
  gone-nothing p e =
      let z = zero_is s (eqb-true (nat_abs s) 0 (and_left _ _ e)) in
      cases (eqb pool p) s (pos 0) (λ (x : ℤ). x ≡ pos 0) (λ f. z) (λ f. refl)

  nothing : (p : ℕ) → stake_in p (no_stake pool account) ≡ pos 0
  nothing p = cases (eqb pool p) (pos 0) (pos 0) (λ (x : ℤ). x ≡ pos 0) (λ f. refl) (λ f. refl)

  changed : (p : ℕ) → stake_sum p (put_stake b (stake_row pool account.0 s since accrual)) +ℤ stake_in p (stake_at b pool account) ≡ stake_sum p b.stakes +ℤ stake_in p (stake_row pool account.0 s since accrual)
  changed p = put-sum stake_key stake_gone (stake_in p) (no_stake pool account) (stake_row pool account.0 s since accrual) (nothing p) (gone-nothing p) b.stakes

  -- an account's row written, with the balance changed as its stake is
  pub stake-put : (balance : ℤ) → since ≤ last_time → nat_abs s ≤ limit → accrual ≤ limit
      → length (put_stake b (stake_row pool account.0 s since accrual)) ≤ b.rooms.stakes
      → balance +ℤ (stake_at b pool account).stake ≡ balance_of b pool +ℤ s
      → WellFormed (with_stakes b (put_stake b (stake_row pool account.0 s since accrual)) pool balance)
  stake-put balance t h k l e =
      let old = stake_at b pool account in
      let o = old-stake b w pool account number.word in
      let rows = put_stake b (stake_row pool account.0 s since accrual) in
      let c = rw (eq-eqb old.pool pool o.its-pool, eq-eqb pool pool refl) at (changed pool) in
      stakes-formed b w rows pool balance (omega arith)
      (put-rows stake_key stake_gone StakeOk 0 (stake_row pool account.0 s since accrual) b.stakes w.stake-rows (omega (arith, number.some)) (row_ok t h k))
      l
      (omega (arith, whole, c, e, w.balance-is pool (omega arith), sum balance old.stake, sum (balance_of b pool) s, sum (stake_sum pool rows) old.stake, sum (stake_sum pool b.stakes) s))
      (λ p n.
      let d = rw (ne_eqb old.pool p (λ q. n (sym q ∙ o.its-pool)), ne_eqb pool p (λ q. n (sym q))) at (changed p) in
      omega (arith, whole, d, sum (stake_sum p rows) (pos 0), sum (stake_sum p b.stakes) (pos 0)))

-- ---- an offer's row

pub record OldOffer (pool : ℕ) (offer : Offer) (r : OfferRow) : Type 0 where
  pub its-pool : r.pool ≡ pool
  pub its-offer : r.offer ≡ offer.0
  pub most : r.reserved ≤ limit
  pub covered : r.paid ≤ r.reserved

pub old-offer : (b : Books) → Rows offer_key OfferOk 0 b.offers → (pool : ℕ) (offer : Offer) → offer.0 < two_to64 → OldOffer pool offer (offer_at b pool offer)
old-offer b w pool offer h =
    find-is offer_key OfferOk (no_offer pool offer) (key_of pool offer.0) 0 b.offers (OldOffer pool offer) w
    (record { its-pool = refl; its-offer = refl; most = omega arith; covered = omega arith })
    (λ y ok e. let a = ok.number.word in let s : y.pool ≡ pool = omega arith in record { its-pool = s; its-offer = omega arith; most = ok.most; covered = ok.covered })

module _ (b : Books) (w : WellFormed b) (pool : ℕ) (offer : Offer) (small : pool ≤ flat) (number : Number offer.0) (reserved paid : ℕ) (some : 1 ≤ reserved) where
  changed-cover : (p : ℕ) → cover_sum p (put_offer b (offer_row pool offer.0 reserved paid)) +ℤ cover_in p (offer_at b pool offer) ≡ cover_sum p b.offers +ℤ cover_in p (offer_row pool offer.0 reserved paid)
  changed-cover p =
      put-sum offer_key offer_gone (cover_in p) (no_offer pool offer) (offer_row pool offer.0 reserved paid)
      (cases (eqb pool p) (pos (0 - 0)) (pos 0) (λ (x : ℤ). x ≡ pos 0) (λ f. refl) (λ f. refl))
      (λ e. absurd (absurd-gone e)) b.offers
    where
      absurd-gone : eqb reserved 0 ≡ true → ⊥
      absurd-gone e = let z = eqb-true reserved 0 e in omega arith

  -- an offer's row written, with the unpaid sum changed as its cover is
  pub offer-put : (unpaid : ℕ) → reserved ≤ limit → paid ≤ reserved
      → length (put_offer b (offer_row pool offer.0 reserved paid)) ≤ b.rooms.offers
      → unpaid + cover (offer_at b pool offer) ≡ unpaid_of b pool + (reserved - paid)
      → WellFormed (with_offers b (put_offer b (offer_row pool offer.0 reserved paid)) pool unpaid)
  offer-put unpaid h k l e =
      let old = offer_at b pool offer in
      let o = old-offer b w.offer-rows pool offer number.word in
      let rows = put_offer b (offer_row pool offer.0 reserved paid) in
      let c = rw (eq-eqb old.pool pool o.its-pool, eq-eqb pool pool refl) at (changed-cover pool) in
      offers-formed b w rows pool unpaid (omega arith)
      (put-rows offer_key offer_gone OfferOk 0 (offer_row pool offer.0 reserved paid) b.offers w.offer-rows (omega (arith, number.some)) (λ g. record { pool = small; number = number; some = some; most = h; covered = k }))
      l
      (omega (arith, whole, c, e, w.unpaid-is pool (omega arith), sum (cover_sum pool rows) (pos (cover old)), sum (cover_sum pool b.offers) (pos (reserved - paid))))
      (λ p n.
      let d = rw (ne_eqb old.pool p (λ q. n (sym q ∙ o.its-pool)), ne_eqb pool p (λ q. n (sym q))) at (changed-cover p) in
      omega (arith, whole, d, sum (cover_sum p rows) (pos 0), sum (cover_sum p b.offers) (pos 0)))
