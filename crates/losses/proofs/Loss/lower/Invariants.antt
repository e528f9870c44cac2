use mir.Syntax.{w64}
use mir.Val.{to_z}
use Rattle.losses.proofs.Writes.{Midway}
use Rattle.losses.proofs.Loss.lower.Given as goal

abbrev pub invariant-loop-i : goal.invariant-loop-i
invariant-loop-i l = Midway l.initial.stakes l.used l.self l.stakes l.i l.at (to_z w64 l.rest)
