use Rattle.std.proofs.Common.{◌≡◌}
use lib.Seq.{paste}
use Rattle.rows.proofs.moves.write_row.Given as goal

abbrev pub invariant-loop-j : goal.invariant-loop-j
invariant-loop-j l = l.s ≡ paste l.initial.s l.here l.row l.j
