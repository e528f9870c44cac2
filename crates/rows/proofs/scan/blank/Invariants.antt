-- What is left is all zero where all of it is, and gets shorter.
use Rattle.std.proofs.Common.{◌≡◌, drop, length}
use Rattle.rows.specs.Rows.{all_zero}
use Rattle.rows.proofs.scan.blank.Given as goal

abbrev pub invariant-loop-part : goal.invariant-loop-part
invariant-loop-part l = all_zero (drop l.from l.s) ≡ all_zero l.rest

abbrev pub decreases-loop-part : goal.decreases-loop-part
decreases-loop-part l = length l.rest
