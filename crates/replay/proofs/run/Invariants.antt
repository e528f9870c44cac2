-- The log so far has run from the tables that there were, and is as much of what was read as is not in the buffer; what it prints is printed. The
-- measure is how many records may be counted yet.
use Rattle.std.proofs.Common.{◌-◌, ◌≡◌, true, ◌≤◌, length, take}
use Rattle.books.specs.Words.{tables, good_tables}
use Rattle.replay.proofs.Logs.{Gone}
use Rattle.replay.proofs.Passed.{Passed}
use Rattle.replay.proofs.run.Given as goal

abbrev pub invariant-loop-place : goal.invariant-loop-place
invariant-loop-place g l =
    (good_tables (tables l.stakes l.offers l.books) ≡ true)
    × (length l.bytes ≡ length l.initial.bytes)
    × (length l.text ≡ length l.initial.text)
    × (l.place.there ≤ length l.bytes)
    × Gone (tables l.initial.stakes l.initial.offers l.initial.books) l.place.number (tables l.stakes l.offers l.books)
    × Passed (tables l.initial.stakes l.initial.offers l.initial.books) (g.R.Read.remaining l.initial.log) (g.W.Write.contents l.initial.answers) l.place.number (tables l.stakes l.offers l.books) (take l.place.there l.bytes) (g.R.Read.remaining l.log) (g.W.Write.contents l.answers)

abbrev pub decreases-loop-place : goal.decreases-loop-place
decreases-loop-place g l = 9223372036854775808 - l.place.number
