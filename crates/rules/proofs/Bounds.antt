-- Well-formed books' figures in size: what fits a signed word.
use mathlib.Core.Path.{ap}
use mathlib.Core.List.{List, [], ◌∷◌}
use Prim.Native.Nat.{ℕ, ◌*◌, ◌≤◌, ◌<◌}
use native.Mathlib.Omega.{arith}
use lib.Dec.{eqb}
use lib.IntN.{ℤ, pos, ◌+ℤ◌}
use lib.ListN.{length}
use Rattle.whole.specs.Whole.{up, dn, Within}
use Rattle.whole.proofs.Linear.{sum, abs, one}
use Rattle.rules.specs.Limits.{limit, most_stakes, most_offers, pools}
use Rattle.rules.specs.Table.{sum_of}
use Rattle.rules.specs.Books.{Books, StakeRow, OfferRow, stake_key, offer_key, cover, balance_of, unpaid_of}
use Rattle.rules.specs.Formed.{stake_in, cover_in}
use Rattle.rules.proofs.Tests.{cases}
use Rattle.rules.specs.inner.Facts.{StakeOk, OfferOk, Rows, WellFormed}

module _ {A : Type 0} (key : A → ℕ) (Ok : A → Type 0) (f : A → ℤ) (most : ℕ) (within : (x : A) → Ok x → Within most (f x)) where
  -- a sum over rows in order is at most as many limits as there are rows
  pub sum-most : (low : ℕ) (rows : List A) → Rows key Ok low rows → Within (length rows * most) (sum_of f rows)
  unfolding sum_of
  sum-most low [] h = record { above = omega arith; below = omega arith }
  sum-most low (x ∷ rows) h =
      let i = within x h.1 in
      let j = sum-most (key x) rows h.2 in
      let s = sum (f x) (sum_of f rows) in
      let o = one (f x +ℤ sum_of f rows) in
      record { above = omega (arith, i.above, i.below, j.above, j.below, s, o); below = omega (arith, i.above, i.below, j.above, j.below, s, o) }

stake-most : (pool : ℕ) (r : StakeRow) → StakeOk r → Within limit (stake_in pool r)
stake-most pool r ok =
    cases (eqb r.pool pool) r.stake (pos 0) (Within limit)
    (λ e. let a = abs r.stake in let s = ok.size in record { above = omega arith; below = omega arith }) (λ e. record { above = omega arith; below = omega arith })

cover-most : (pool : ℕ) (r : OfferRow) → OfferOk r → Within limit (cover_in pool r)
cover-most pool r ok =
    cases (eqb r.pool pool) (pos (cover r)) (pos 0) (Within limit)
    (λ e. record { above = omega (arith, ok.most); below = omega arith }) (λ e. record { above = omega arith; below = omega arith })

-- a balance is within 1,024 limits, an unpaid sum within 512
pub balance-most : (b : Books) → WellFormed b → (pool : ℕ) → pool < pools → Within (most_stakes * limit) (balance_of b pool)
balance-most b w pool h =
    let e = w.balance-is pool h in
    let m = sum-most stake_key StakeOk (stake_in pool) limit (stake-most pool) 0 b.stakes w.stake-rows in
    let r = w.stake-room in
    record { above = omega (arith, ap up e, m.above, r.lent, r.enough); below = omega (arith, ap dn e, m.below, r.lent, r.enough) }

pub unpaid-most : (b : Books) → WellFormed b → (pool : ℕ) → pool < pools → unpaid_of b pool ≤ most_offers * limit
unpaid-most b w pool h =
    let m = sum-most offer_key OfferOk (cover_in pool) limit (cover-most pool) 0 b.offers w.offer-rows in
    let r = w.offer-room in
    omega (arith, ap up (w.unpaid-is pool h), m.above, r.lent, r.enough)
