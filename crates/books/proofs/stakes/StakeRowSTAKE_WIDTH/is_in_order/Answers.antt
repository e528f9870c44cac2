-- `is_in_order` of a stake row meets its contract: seven tests in a row.
use mathlib.Core.Path.{sym}
use mathlib.Core.Bool.{not, ◌||◌}
use mathlib.Core.List.{[], ◌∷◌}
use native.Mathlib.Omega.{arith}
use lib.Dec.{leb, eqb}
use lib.IntN.{nat_abs}
use mir.Syntax.{w64}
use mir.Val.{to_z}
use Rattle.rules.specs.Limits.{is_pool, is_number}
use Rattle.rules.specs.Books.{is_zero, stake_gone}
use Rattle.rules.specs.Formed.{stake_test}
use Rattle.rules.proofs.Tests.{word_number}
use Rattle.books.specs.inner.Held.{stake_of}
use Rattle.rules.proofs.Conditions.{all-joined}
use Rattle.books.proofs.Signs.{zero_same}
use Rattle.books.proofs.stakes.StakeRowSTAKE_WIDTH.is_in_order.Goals as goal

pub returns : goal.returns
unfolding stake_test is_pool
returns c =
    let row = c.args.self in
    rw (sym (word_number row.account (omega arith)), c.is_gone.ensures, zero_same row.stake (omega arith), c.magnitude.ensures)
    (all-joined (leb row.pool 3) (is_number row.account ∷ not (stake_gone (stake_of row)) ∷ (not (is_zero (to_z w64 row.stake)) || eqb row.since 0) ∷ leb row.since 17_179_869_183 ∷ leb (nat_abs (to_z w64 row.stake)) 1_000_000_000_000_000 ∷ leb row.accrual 1_000_000_000_000_000 ∷ []))
