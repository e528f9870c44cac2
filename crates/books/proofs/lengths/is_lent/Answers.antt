-- `is_lent` meets its contract: four tests in a row.
use mathlib.Core.List.{[], ◌∷◌}
use lib.Dec.{eqb}
use lib.ListN.{length}
use Rattle.rules.specs.Books.{rooms_lent}
use Rattle.books.specs.Layout.{stake_width, offer_width, books_words}
use Rattle.books.specs.Tables.{room_of}
use Rattle.books.specs.Fresh.{lent, whole_rows}
use Rattle.rules.proofs.Conditions.{all-joined}
use Rattle.books.proofs.lengths.is_lent.Goals as goal

pub returns : goal.returns
unfolding lent
returns c =
    let a = c.args in
    let s = a.stakes.now in
    let o = a.offers.now in
    rw (c.whole_rows.ensures, c.whole_rows-2.ensures, c.rooms_lent.ensures)
    (all-joined (whole_rows stake_width s) (whole_rows offer_width o ∷ eqb (length a.books.now) books_words ∷ rooms_lent (record { stakes = room_of stake_width s; offers = room_of offer_width o }) ∷ []))
