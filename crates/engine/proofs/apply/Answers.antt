-- `apply` meets its contract: books of another length are not good tables.
use Rattle.std.proofs.Common.{rules}
use Rattle.books.specs.Words.{tables, step_words}
use Rattle.books.proofs.Good.{not-sized}
use Rattle.engine.proofs.apply.Goals as goal

pub returns-in_default : goal.returns-in_default
unfolding step_words
returns-in_default c = rw (not-sized (tables c.args.stakes.now c.args.offers.now c.args.books.now) c.in_default.ensures.cases) (search rules)
