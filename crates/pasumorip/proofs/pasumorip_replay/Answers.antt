-- `pasumorip_replay` meets its contract: books of another length are not good tables.
use Rattle.std.proofs.Common.{rules}
use Rattle.books.specs.Words.{tables}
use Rattle.books.proofs.Good.{not-sized}
use Rattle.pasumorip.specs.Face.{replayed_from}
use Rattle.pasumorip.proofs.pasumorip_replay.Goals as goal

pub returns-in_default-as_mut_array : goal.returns-in_default-as_mut_array
unfolding replayed_from
returns-in_default-as_mut_array c = rw (not-sized (tables c.args.stakes.now c.args.offers.now c.args.books.now) c.in_default-as_mut_array.ensures.cases) (search rules)
