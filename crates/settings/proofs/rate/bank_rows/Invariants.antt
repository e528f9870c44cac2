-- The rows before row i are written, and those from there on as they were (`Banking`).
use Rattle.settings.proofs.RateWalk.{Banking}
use Rattle.settings.proofs.rate.bank_rows.Given as goal

abbrev pub invariant-loop-i : goal.invariant-loop-i
invariant-loop-i l = Banking l.books l.time l.initial.stakes l.used l.stakes l.i
