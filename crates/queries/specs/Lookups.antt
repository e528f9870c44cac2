-- A lookup of a row on words: W-213, "The answer of a lookup reports its count".
use Rattle.std.specs.Prelude.{cond, [], ◌∷◌, ℕ, Result, Ok, Err}
use Rattle.rows.specs.Lookup.{lookup}
use Rattle.rows.specs.Rows.{key_of}
use Rattle.rows.specs.declared.Lookup.{Lookup}
use Rattle.rules.specs.Limits.{is_pool, is_number}
use Rattle.rules.specs.Table.{all}
use Rattle.rules.specs.Answers.{Malformed, BadTables, code_of}
use Rattle.rules.specs.declared.refusal.Refusal.{Refusal}
use Rattle.rules.specs.declared.Account.{Account}
use Rattle.rules.specs.declared.Offer.{Offer}
use Rattle.books.specs.Layout.{stake_width, offer_width}
use Rattle.books.specs.Tables.{used_of}
use Rattle.books.specs.Words.{Tables, good_tables}

-- a lookup's answer: its code, the place of the row or of the gap, and the rows read
pub record LookupAnswer : Type 0 where
  pub code : ℕ
  pub place : Result ℕ ℕ
  pub reads : ℕ

-- a refusal: its code, and nothing found or read
abbrev pub refused_lookup : ℕ → LookupAnswer
refused_lookup code = record { code = code; place = Err 0; reads = 0 }

abbrev pub told_lookup : Lookup → LookupAnswer
told_lookup f = record { code = 0; place = f.place; reads = f.reads }

-- the answer of a result as the code gives it
abbrev pub lookup_answer : Result Lookup Refusal → LookupAnswer
lookup_answer (Ok f) = told_lookup f
lookup_answer (Err r) = refused_lookup (code_of r)

-- "Tests run in this order: 1, 2": the pool and the number, then the tables; then the lookup among the used rows of one of them
abbrev pub lookup_on : Tables → ℕ → ℕ → Lookup → LookupAnswer
lookup_on t pool number f =
    cond (all (is_pool pool ∷ is_number number ∷ [])) (cond (good_tables t) (told_lookup f) (refused_lookup BadTables)) (refused_lookup Malformed)

unfoldable pub stake_lookup : Tables → ℕ → Account → LookupAnswer
stake_lookup t pool account =
    lookup_on t pool account.0 (lookup t.stakes stake_width (used_of stake_width t.stakes) (key_of pool account.0))

unfoldable pub offer_lookup : Tables → ℕ → Offer → LookupAnswer
offer_lookup t pool offer =
    lookup_on t pool offer.0 (lookup t.offers offer_width (used_of offer_width t.offers) (key_of pool offer.0))
