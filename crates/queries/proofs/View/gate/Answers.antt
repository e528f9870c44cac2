-- `gate` meets its contract: books of another length are not good tables.
use Rattle.std.proofs.Common.{rules}
use Rattle.books.proofs.Good.{not-sized}
use Rattle.queries.specs.Queries.{words_seen}
use Rattle.queries.proofs.View.gate.Goals as goal

pub returns-in_default-clause-code : goal.returns-in_default-clause-code
returns-in_default-clause-code c = rw (not-sized (words_seen c.args.self) c.in_default.ensures.cases) (search rules)
