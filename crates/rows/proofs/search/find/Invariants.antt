use Prim.Native.Nat.{◌-◌, ◌≤◌}
use Rattle.rows.specs.Rows.{key_of}
use Rattle.rows.proofs.RowsRead.{Reading}
use Rattle.rows.proofs.search.find.Given as goal

abbrev pub invariant-loop-low : goal.invariant-loop-low
invariant-loop-low l = (l.low ≤ l.high) × Reading l.s l.width l.used (key_of l.key.pool l.key.number) (record { low = l.low; rows = l.high - l.low; found = l.found }) l.reads

abbrev pub decreases-loop-low : goal.decreases-loop-low
decreases-loop-low l = l.high - l.low
