-- `ask` meets its contract, where its numbers are no question.
use Rattle.std.proofs.Common.{ap}
use Rattle.books.specs.Words.{books_of}
use Rattle.queries.specs.Queries.{words_seen, query_words}
use Rattle.queries.proofs.View.ask.Goals as goal

pub returns-in_default : goal.returns-in_default
unfolding query_words
returns-in_default c = let t = words_seen c.args.self in ap (query_words t) (c.in_default.ensures (books_of t))
