-- What the amounts of a payment, a grant and a claim are bounded by.
use mathlib.Core.Path.{◌≡◌, refl}
use mathlib.Core.Bool.{Bool, true, false, cond}
use mathlib.Core.List.{List, [], ◌∷◌}
use Prim.Native.Nat.{ℕ, ◌+◌, ◌-◌, ◌≤◌, ◌<◌}
use native.Mathlib.Omega.{arith}
use borrow.Author.Tests.{eqb-false, eq-eqb}
use lib.Dec.{ltb, eqb}
use lib.IntN.{ℤ, pos, ◌+ℤ◌, ◌-ℤ◌}
use lib.Signed.{◌≤ℤ◌}
use Rattle.whole.specs.Whole.{up, min_z}
use Rattle.whole.proofs.Linear.{whole, sum, dif, one, lesser-is}
use Rattle.rules.specs.Limits.{pools, flat, two_to64}
use Rattle.rules.specs.Terms.{capped}
use Rattle.rules.specs.Table.{key_of, find, sum_of}
use Rattle.rules.specs.Books.{Books, offer_key, no_offer, offer_at, cover, balance_of, unpaid_of}
use Rattle.rules.specs.Calls.{Account, Offer, PayCall, ReserveCall, ClaimCall}
use Rattle.rules.specs.Payouts.{payable, grantable, cover_of, available, claimable}
use Rattle.rules.specs.Formed.{cover_in}
use Rattle.rules.proofs.Tests.{cases}
use Rattle.rules.specs.inner.Facts.{WellFormed}
use Rattle.rules.specs.inner.Passed.{PayDone, ReserveDone, ClaimDone}
use Rattle.rules.proofs.Writes.{old-offer}

-- what a payment says of its figures
pub record Paying (b : Books) (c : PayCall) : Type 0 where
  pub some : 0 < up (payable b c)
  pub most : pos (up (payable b c)) ≤ℤ balance_of b c.pool

pub paying : (b : Books) (signer : Account) (c : PayCall) → PayDone b signer c → Paying b c
paying b signer c h =
    let n = up (payable b c) in
    let e = lesser-is (pos (capped c.pool (up c.amount))) (balance_of b c.pool) in
    let positive : 0 < n = let d = eqb-false n 0 h.positive in omega arith in
    record { some = positive; most = omega (arith, whole, positive, e, one (payable b c)) }

-- what a grant says of its figures: the balance still covers all that is reserved
pub record Granting (b : Books) (c : ReserveCall) : Type 0 where
  pub some : 0 < up (grantable b c)
  pub room : pos (unpaid_of b c.pool + up (grantable b c)) ≤ℤ balance_of b c.pool

pub granting : (b : Books) (signer : Account) (c : ReserveCall) → ReserveDone b signer c → Granting b c
granting b signer c h =
    let n = up (grantable b c) in
    let x = cond (eqb c.pool flat) c.amount (pos (capped c.pool (up c.amount)) -ℤ pos (offer_at b c.pool c.offer).reserved) in
    let y = balance_of b c.pool -ℤ pos (unpaid_of b c.pool) in
    let positive : 0 < n = let d = eqb-false n 0 h.positive in omega arith in
    record { some = positive; room = omega (arith, whole, positive, lesser-is x y, dif (balance_of b c.pool) (pos (unpaid_of b c.pool)), one (grantable b c)) }

-- what a claim that pays says of its figures
pub record Claimed (b : Books) (c : ClaimCall) : Type 0 where
  pub some : 0 < up (claimable b c)
  pub cover-most : up (claimable b c) ≤ cover_of b c
  pub amount-most : up (claimable b c) ≤ up c.amount
  pub balance-most : pos (up (claimable b c)) ≤ℤ balance_of b c.pool

pub claimed-is : (b : Books) (signer : Account) (c : ClaimCall) → ClaimDone b signer c → Claimed b c
claimed-is b signer c h =
    let n = up (claimable b c) in
    let x = min_z c.amount (pos (cover_of b c)) in
    let e = lesser-is x (available b c) in
    let f = lesser-is c.amount (pos (cover_of b c)) in
    let positive : 0 < n = let d = eqb-false n 0 h.positive in omega arith in
    record {
      some = positive;
      cover-most = omega (arith, whole, positive, e, f, one (claimable b c), one x, one c.amount);
      amount-most = omega (arith, whole, positive, e, f, one (claimable b c), one x, one c.amount);
      balance-most = at_most (eqb c.pool flat) (omega (arith, whole, positive, e, one (claimable b c)));
    }
  where
    at_most : (t : Bool) → pos (up (claimable b c)) ≤ℤ cond t (balance_of b c.pool -ℤ pos (unpaid_of b c.pool - cover_of b c)) (balance_of b c.pool) → pos (up (claimable b c)) ≤ℤ balance_of b c.pool
    at_most true h = omega (arith, whole, h, dif (balance_of b c.pool) (pos (unpaid_of b c.pool - cover_of b c)))
    at_most false h = h

-- one of terms that are none below 0 is at most their sum
found-sum : {A : Type 0} (key : A → ℕ) (f : A → ℤ) (d : A) (k : ℕ) → ((y : A) → pos 0 ≤ℤ f y) → f d ≡ pos 0 → (rows : List A) → (pos 0 ≤ℤ sum_of f rows) × (f (find key d k rows) ≤ℤ sum_of f rows)
unfolding sum_of find
found-sum key f d k n e [] = (omega (arith, whole), omega (arith, whole, e))
found-sum {A} key f d k n e (x ∷ rows) =
    let i = found-sum key f d k n e rows in
    let a = i.0 in
    let b = i.1 in
    let c = n x in (
      omega (arith, whole, a, c, sum (f x) (sum_of f rows)),
      cases (ltb (key x) k) (find key d k rows) (cond (eqb (key x) k) x d) (λ (y : A). f y ≤ℤ (f x +ℤ sum_of f rows))
          (λ g. omega (arith, whole, b, c, sum (f x) (sum_of f rows)))
          (λ g. cases (eqb (key x) k) x d (λ (y : A). f y ≤ℤ (f x +ℤ sum_of f rows)) (λ g. omega (arith, whole, a, sum (f x) (sum_of f rows))) (λ g. omega (arith, whole, a, c, e, sum (f x) (sum_of f rows)))),
    )

-- an offer's cover is part of its pool's unpaid sum
pub cover-part : (b : Books) → WellFormed b → (pool : ℕ) (offer : Offer) → pool < pools → offer.0 < two_to64 → cover (offer_at b pool offer) ≤ unpaid_of b pool
cover-part b w pool offer h q =
    let o = old-offer b w.offer-rows pool offer q in
    let s = found-sum offer_key (cover_in pool) (no_offer pool offer) (key_of pool offer.0)
    (λ y. cases (eqb y.pool pool) (pos (cover y)) (pos 0) (λ (z : ℤ). pos 0 ≤ℤ z) (λ g. omega (arith, whole)) (λ g. omega (arith, whole)))
    (cases (eqb pool pool) (pos (0 - 0)) (pos 0) (λ (z : ℤ). z ≡ pos 0) (λ g. refl) (λ g. refl))
    b.offers in
    let t = rw (eq-eqb (offer_at b pool offer).pool pool o.its-pool) at s.1 in
    omega (arith, whole, t, w.unpaid-is pool h)
