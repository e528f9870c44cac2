-- Calls one after the other on words.
use Rattle.std.specs.Prelude.{List, [], ◌∷◌}
use Rattle.rules.specs.declared.Call.{Call}
use Rattle.books.specs.Words.{Tables, step_words}

-- the words after the calls
unfoldable pub run_words : Tables → List Call → Tables
run_words t [] = t
run_words t (c ∷ calls) = run_words (step_words t c).tables calls
