-- `rooms_lent` meets its contract: four tests in a row.
use mathlib.Core.List.{[], ◌∷◌}
use lib.Dec.{leb}
use Rattle.rules.specs.Books.{rooms_lent}
use Rattle.rules.proofs.Conditions.{all-joined}
use Rattle.books.proofs.lengths.rooms_lent.Goals as goal

pub returns : goal.returns
unfolding rooms_lent
returns c =
    let a = c.args in
    all-joined (leb 1 a.stakes) (leb a.stakes 1_024 ∷ leb 1 a.offers ∷ leb a.offers 512 ∷ [])
