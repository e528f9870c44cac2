-- The rows from row i on fit.
use Prim.Native.Nat.{ℕ, ◌≤◌, ◌<◌}
use Rattle.settings.proofs.RateRows.{Fits}
use Rattle.settings.proofs.rate.rows_fit.Given as goal

abbrev pub invariant-loop-i : goal.invariant-loop-i
invariant-loop-i l = (j : ℕ) → l.i ≤ j → j < l.used → Fits l.books l.time l.stakes j
