-- What good tables give a reader: the order of their rows, and a pool's figures within their limits.
use mathlib.Core.Path.{◌≡◌, subst⁻¹}
use mathlib.Core.Bool.{true}
use mathlib.Core.List.{List}
use Prim.Native.Nat.{ℕ, ◌*◌, ◌≤◌, ◌<◌}
use native.Mathlib.Omega.{arith}
use Rattle.whole.specs.Whole.{Within}
use Rattle.rules.specs.Limits.{limit, most_stakes}
use Rattle.books.specs.Layout.{pools, stake_width}
use Rattle.books.specs.Tables.{tidy}
use Rattle.books.specs.Words.{Tables, tables, good_tables}
use Rattle.books.proofs.Good.{good-read, good-balance, good-unpaid}
use Rattle.books.proofs.Writing.{balance-is, unpaid-is}
use Rattle.payouts.specs.inner.Amounts.{Payable}

pub tidy_stakes : (s o b : List ℕ) → good_tables (tables s o b) ≡ true → tidy stake_width s ≡ true
tidy_stakes s o b g = (good-read (tables s o b) g).stakes-tidy

pub pool-figures : (t : Tables) → good_tables t ≡ true → (pool w : ℕ) → pool < pools → w ≤ limit → Payable t.books pool w
pool-figures t g pool w p h = record {
  pool-is = p;
  balance = subst⁻¹ (Within (most_stakes * limit)) (balance-is t pool p) (good-balance t g pool p);
  unpaid = omega (arith, unpaid-is t pool p, good-unpaid t g pool p);
  amount-most = h;
}
