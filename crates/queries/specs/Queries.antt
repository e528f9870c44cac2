-- A question on words.
use Rattle.std.specs.Prelude.{cond, eqb}
use Rattle.rules.specs.Answers.{Answer, refusal, Malformed, BadTables}
use Rattle.books.specs.Words.{Tables, tables, good_tables}
use Rattle.queries.specs.declared.View.{View}

-- the words that a query sees
abbrev pub words_seen : View → Tables
words_seen v = tables v.stakes.now v.offers.now v.books.now

-- "Tests run in this order: 1, 2": where the rules answer 1, whatever the tables, that is the answer; then 2 of tables that are not well
-- formed; then what the rules answer of the books that they hold
unfoldable pub query_words : Tables → Answer → Answer
query_words t a = cond (eqb a.code Malformed) a (cond (good_tables t) a (refusal BadTables))
