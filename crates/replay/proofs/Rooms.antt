-- The program's rooms are within the limits.
use mathlib.Core.Path.{◌≡◌, sym}
use mathlib.Core.Bool.{true}
use mathlib.Core.List.{List}
use Prim.Native.Nat.{ℕ, ◌*◌}
use lib.ListN.{length}
use Rattle.rules.specs.Limits.{most_stakes, most_offers}
use Rattle.rules.specs.Table.{each}
use Rattle.rules.specs.Books.{rooms_lent}
use Rattle.books.specs.Layout.{stake_width, offer_width, books_words}
use Rattle.books.specs.Words.{tables}
use Rattle.books.specs.Fresh.{lent}

pub rooms-lent : (stakes offers books : List ℕ) → most_stakes * stake_width ≡ length stakes → most_offers * offer_width ≡ length offers → books_words ≡ length books → lent (tables stakes offers books) ≡ true
unfolding lent rooms_lent each
rooms-lent stakes offers books s o b = rw (sym s, sym o, sym b)
