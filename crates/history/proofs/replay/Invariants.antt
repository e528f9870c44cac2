use mathlib.Core.Path.{◌≡◌}
use Prim.Native.Nat.{◌*◌}
use lib.ListN.{length}
use Rattle.books.specs.Words.{tables}
use Rattle.log_file.specs.Records.{record_bytes}
use Rattle.history.proofs.Reached.{Reached}
use Rattle.history.proofs.replay.Given as goal

abbrev pub invariant-loop-record : goal.invariant-loop-record
invariant-loop-record l =
    Reached (tables l.initial.stakes l.initial.offers l.initial.books) l.records l.initial.text.bytes.now l.number (tables l.stakes l.offers l.books) l.text.bytes.now l.done (record_bytes * l.record-index) l.text.at
    × (length l.stakes ≡ length l.initial.stakes) × (length l.offers ≡ length l.initial.offers) × (length l.text.bytes.now ≡ length l.initial.text.bytes.now) × (l.text.bytes.ghost_name ≡ l.initial.text.bytes.ghost_name)
