-- Stakes and balances in size: what a share asks.
use mathlib.Core.Path.{ap}
use mathlib.Core.List.{List}
use Prim.Native.Nat.{ℕ, ◌*◌, ◌≤◌, ◌<◌}
use native.Mathlib.Omega.{arith}
use lib.Dec.{eqb}
use lib.IntN.{ℤ, pos}
use Rattle.whole.specs.Whole.{up, Within}
use Rattle.whole.proofs.Linear.{within-abs}
use Rattle.rules.specs.Limits.{limit, most_stakes}
use Rattle.rules.specs.Books.{StakeRow, stake_key}
use Rattle.rules.specs.Formed.{stake_in}
use Rattle.rules.specs.inner.Facts.{StakeOk}
use Rattle.rules.proofs.Tests.{cases}
use Rattle.rules.proofs.Bounds.{sum-most}
use Rattle.books.specs.Layout.{stake_width}
use Rattle.books.specs.Tables.{used_of, table_of}
use Rattle.books.specs.Words.{stake_row_at}
use Rattle.books.proofs.Lists.{rows-length}
use Rattle.books.proofs.StakeRows.{held-ok}
use Rattle.losses.specs.inner.Settling.{Divisible, Ready, Sharers, stake_at_row}
use Rattle.losses.specs.declared.Loss.{Loss}

module _ {s : List ℕ} {used : ℕ} {l : Loss} (h : Ready s used l) where
  pub few-rows : used ≤ most_stakes
  few-rows = omega (arith, h.loss-is.few, rows-length stake_row_at s 0 (used_of stake_width s), h.held.table.used)

  pub stake-small : (k : ℕ) → k < used → Within limit (stake_at_row s k)
  stake-small k q = within-abs (held-ok s used h.held k q).size

  in-pool : (r : StakeRow) → StakeOk r → Within limit (stake_in l.pool r)
  in-pool r ok = cases (eqb r.pool l.pool) r.stake (pos 0) (Within limit) (λ e. within-abs ok.size) (λ e. record { above = omega arith; below = omega arith })

  balance-large : l.balance ≤ most_stakes * limit
  balance-large = let m = sum-most stake_key StakeOk (stake_in l.pool) limit in-pool 0 (table_of stake_row_at stake_width s) h.held.rows in omega (arith, ap up h.loss-is.sum, m.above, h.loss-is.few)

  pub part_of : {z : ℤ} → Within limit z → Divisible z l.amount l.balance
  part_of w = record { small = w; some = omega (arith, h.loss-is.some, h.loss-is.most); most = h.loss-is.most; large = balance-large }

  pub sharers-of : Sharers s l
  sharers-of =
      let span = h.span in
      let ends = h.ends in
      record {
        order = ends.inside;
        few = omega (arith, ends.before, span.most, few-rows);
        room = omega (arith, ends.before, span.most, h.held.table.fits);
        small = λ k p q. stake-small k (omega (arith, q, ends.before, span.most));
        some = omega (arith, h.loss-is.some, h.loss-is.most);
        most = h.loss-is.most;
        large = balance-large;
        within = h.loss-is.within;
      }
