-- `added_to` of a stake row meets its contract: no stake in order, and no sum of them, is near the end of a signed word.
use Rattle.std.proofs.Common.{arith}
use lib.IntN.{nat_abs}
use borrow.Author.Tests.{leb-true}
use mir.Syntax.{w64}
use mir.Val.{to_z}
use Rattle.whole.proofs.Linear.{whole, within-abs}
use Rattle.rules.specs.Limits.{limit}
use Rattle.rules.specs.Formed.{stake_test}
use Rattle.rules.proofs.Tests.{nth}
use Rattle.books.proofs.stakes.StakeRowSTAKE_WIDTH.added_to.Goals as goal

pub add-requires : goal.add-requires
unfolding stake_test
add-requires c =
    let size = within-abs {z = to_z w64 c.args.self.stake} (leb-true (nat_abs (to_z w64 c.args.self.stake)) limit (nth _ c.requires.in_order 5)) in
    omega (arith, whole, c.requires.within.above, c.requires.within.below, size.above, size.below)
