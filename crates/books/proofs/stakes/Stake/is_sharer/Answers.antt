-- `is_sharer` meets its contract: a word is 0 where its number is.
use mathlib.Core.Path.{ap}
use mathlib.Core.Bool.{Bool, not, ◌&&◌}
use native.Mathlib.Omega.{arith}
use lib.Dec.{eqb}
use Rattle.rules.specs.Sharing.{sharer}
use Rattle.books.proofs.Signs.{zero_same}
use Rattle.books.proofs.stakes.Stake.is_sharer.Goals as goal

pub returns : goal.returns
unfolding sharer
returns c =
    let a = c.args in
    ap (λ (v : Bool). eqb a.self.pool a.pool && not v) (zero_same a.self.stake (omega arith))
