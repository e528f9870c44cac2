-- A pool's figures after a write of one of them: that figure anew, and every other figure of every pool as it was.
use mathlib.Core.Path.{◌≡◌, refl, ap}
use mathlib.Core.List.{List, [], ◌∷◌}
use Prim.Native.Nat.{ℕ, zero, suc, ◌<◌}
use lib.IntN.{ℤ}
use lib.ListN.{length, get_or, set}
use lib.Seq.{get_or-set_same, get_or-set_other}
use Rattle.rules.specs.Books.{Books, Pool, StakeRow, OfferRow, no_figures, balance_of, unpaid_of, with_stakes, with_offers}

-- a figure that the write does not change, of any pool
module _ {A : Type 0} (figure : Pool → A) (x : Pool) where
  pub figure-stays : (pools : List Pool) (pool : ℕ) → figure x ≡ figure (get_or pools pool no_figures) → (p : ℕ) → figure (get_or (set pools pool x) p no_figures) ≡ figure (get_or pools p no_figures)
  figure-stays [] pool e p = refl
  figure-stays (y ∷ pools) zero e zero = e
  figure-stays (y ∷ pools) zero e (suc p) = refl
  figure-stays (y ∷ pools) (suc pool) e zero = refl
  figure-stays (y ∷ pools) (suc pool) e (suc p) = figure-stays pools pool e p

-- ---- after stake rows and a balance

module _ (b : Books) (rows : List StakeRow) (pool : ℕ) (balance : ℤ) where
  pub balance-put : pool < length b.pools → balance_of (with_stakes b rows pool balance) pool ≡ balance
  balance-put h = ap (λ (x : Pool). x.balance) (get_or-set_same b.pools pool _ no_figures h)

  pub balance-beside : (p : ℕ) → (p ≡ pool → ⊥) → balance_of (with_stakes b rows pool balance) p ≡ balance_of b p
  balance-beside p n = ap (λ (x : Pool). x.balance) (get_or-set_other b.pools pool p _ no_figures n)

  pub unpaid-stays : (p : ℕ) → unpaid_of (with_stakes b rows pool balance) p ≡ unpaid_of b p
  unpaid-stays p = figure-stays (λ (x : Pool). x.unpaid) _ b.pools pool refl p

-- ---- after offer rows and an unpaid sum

module _ (b : Books) (rows : List OfferRow) (pool unpaid : ℕ) where
  pub unpaid-put : pool < length b.pools → unpaid_of (with_offers b rows pool unpaid) pool ≡ unpaid
  unpaid-put h = ap (λ (x : Pool). x.unpaid) (get_or-set_same b.pools pool _ no_figures h)

  pub unpaid-beside : (p : ℕ) → (p ≡ pool → ⊥) → unpaid_of (with_offers b rows pool unpaid) p ≡ unpaid_of b p
  unpaid-beside p n = ap (λ (x : Pool). x.unpaid) (get_or-set_other b.pools pool p _ no_figures n)

  pub balance-stays : (p : ℕ) → balance_of (with_offers b rows pool unpaid) p ≡ balance_of b p
  balance-stays p = figure-stays (λ (x : Pool). x.balance) _ b.pools pool refl p
