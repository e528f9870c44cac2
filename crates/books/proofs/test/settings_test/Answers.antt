-- `settings_test` meets its contract: three tests in a row.
use mathlib.Core.Bool.{not}
use mathlib.Core.List.{[], ◌∷◌}
use lib.Dec.{eqb, leb}
use lib.ListN.{get_or}
use Rattle.rules.specs.Limits.{greatest_rate}
use Rattle.rules.proofs.Conditions.{all-joined}
use Rattle.books.specs.Layout.{admin_word, paused_word, rate_word}
use Rattle.books.proofs.test.settings_test.Goals as goal

pub returns : goal.returns
returns c =
    let b = c.args.books.now in
    all-joined (not (eqb (get_or b admin_word 0) 0)) (leb (get_or b paused_word 0) 1 ∷ leb (get_or b rate_word 0) greatest_rate ∷ [])
