-- `is_in_order` of an offer row meets its contract: five tests in a row.
use mathlib.Core.Path.{sym}
use mathlib.Core.List.{[], ◌∷◌}
use native.Mathlib.Omega.{arith}
use lib.Dec.{leb}
use Rattle.rules.specs.Limits.{is_pool, is_number}
use Rattle.rules.specs.Formed.{offer_test}
use Rattle.rules.proofs.Tests.{word_number}
use Rattle.rules.proofs.Conditions.{all-joined}
use Rattle.books.proofs.offers.OfferLineRowOFFER_WIDTH.is_in_order.Goals as goal

pub returns : goal.returns
unfolding offer_test is_pool
returns c =
    let row = c.args.self in
    rw (sym (word_number row.offer (omega arith)))
    (all-joined (leb row.pool 3) (is_number row.offer ∷ leb 1 row.reserved ∷ leb row.reserved 1_000_000_000_000_000 ∷ leb row.paid row.reserved ∷ []))
