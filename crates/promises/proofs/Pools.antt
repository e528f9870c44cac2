-- A pool's figures after a write of one of them, by the tests of an operation's fields.
use mathlib.Core.Path.{◌≡◌, sym, ◌∙◌}
use mathlib.Core.Bool.{true, false}
use mathlib.Core.List.{List}
use Prim.Native.Nat.{ℕ}
use native.Mathlib.Omega.{arith}
use borrow.Author.Tests.{eqb-false}
use lib.Dec.{eqb}
use lib.IntN.{ℤ}
use lib.ListN.{length, length-set}
use Rattle.rules.specs.Limits.{pools, is_pool}
use Rattle.rules.specs.Books.{Books, StakeRow, OfferRow, balance_of, unpaid_of, with_stakes, with_offers}
use Rattle.rules.specs.Payouts.{after_loss}
use Rattle.rules.proofs.Tests.{pool-read}
use Rattle.rules.specs.inner.Facts.{WellFormed}
use Rattle.rules.proofs.Pools as figures

-- there are figures for every pool
abbrev pub HasPools : Books → Type 0
HasPools b = length b.pools ≡ pools

pub has-pools : (b : Books) → WellFormed b → HasPools b
has-pools b w = w.four-pools

pub loss-has-pools : (b : Books) (pool loss : ℕ) → HasPools b → HasPools (after_loss b pool loss)
loss-has-pools b pool loss w = length-set b.pools pool _ ∙ w

module _ (b : Books) (pool p : ℕ) where
  module _ (rows : List StakeRow) (balance : ℤ) where
    pub balance-put : HasPools b → is_pool pool ≡ true → p ≡ pool → balance_of (with_stakes b rows pool balance) p ≡ balance
    balance-put w h e = rw e (figures.balance-put b rows pool balance (omega (arith, w, pool-read pool h)))

    pub balance-beside : eqb pool p ≡ false → balance_of (with_stakes b rows pool balance) p ≡ balance_of b p
    balance-beside e = figures.balance-beside b rows pool balance p (λ s. eqb-false pool p e (sym s))

  module _ (rows : List OfferRow) (unpaid : ℕ) where
    pub unpaid-put : HasPools b → is_pool pool ≡ true → p ≡ pool → unpaid_of (with_offers b rows pool unpaid) p ≡ unpaid
    unpaid-put w h e = rw e (figures.unpaid-put b rows pool unpaid (omega (arith, w, pool-read pool h)))

    pub unpaid-beside : eqb pool p ≡ false → unpaid_of (with_offers b rows pool unpaid) p ≡ unpaid_of b p
    unpaid-beside e = figures.unpaid-beside b rows pool unpaid p (λ s. eqb-false pool p e (sym s))
