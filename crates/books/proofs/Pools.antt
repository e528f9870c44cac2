-- What holds of the four pools.
use mathlib.Core.Path.{◌≡◌, refl}
use Prim.Native.Nat.{ℕ, zero, suc, ◌<◌}
use native.Mathlib.Omega.{arith}
use lib.ListN.{get_or}
use Rattle.books.specs.Layout.{pools, each_pool}

-- a statement on a pool, from those on each
pub pool-cases : (P : ℕ → Type 0) → P 0 → P 1 → P 2 → P 3 → (pool : ℕ) → pool < pools → P pool
pool-cases P a b c d zero h = a
pool-cases P a b c d (suc zero) h = b
pool-cases P a b c d (suc (suc zero)) h = c
pool-cases P a b c d (suc (suc (suc zero))) h = d
pool-cases P a b c d (suc (suc (suc (suc p)))) h = absurd (omega arith)

-- the same figure of each pool
pub each_same : {A : Type 0} (d : A) (pool : ℕ) → get_or (each_pool (λ p. d)) pool d ≡ d
each_same d zero = refl
each_same d (suc zero) = refl
each_same d (suc (suc zero)) = refl
each_same d (suc (suc (suc zero))) = refl
each_same d (suc (suc (suc (suc p)))) = refl
