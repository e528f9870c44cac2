use Prim.Native.Nat.{◌-◌, ◌≤◌}
use mathlib.Core.Bool.{false}
use Rattle.rows.proofs.Halves.{Counts}
use Rattle.rows.proofs.search.used_rows.Given as goal

abbrev pub invariant-loop-used : goal.invariant-loop-used
invariant-loop-used l = (l.used ≤ l.unused) × Counts l.s l.width (record { low = l.used; rows = l.unused - l.used; found = false })

abbrev pub decreases-loop-used : goal.decreases-loop-used
decreases-loop-used l = l.unused - l.used
