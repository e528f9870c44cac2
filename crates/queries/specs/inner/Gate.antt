-- The opening that queries and lookups share.
use Rattle.std.specs.Prelude.{Bool, cond, ℕ}
use Rattle.rules.specs.Answers.{Malformed, BadTables}
use Rattle.books.specs.Words.{Tables, good_tables}

-- a question's refusal before it is answered, or 0: its fields, then the tables
abbrev pub gate_code : Tables → Bool → ℕ
gate_code t fields = cond fields (cond (good_tables t) 0 BadTables) Malformed
