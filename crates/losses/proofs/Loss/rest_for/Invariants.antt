use mathlib.Core.Path.{◌≡◌}
use Prim.Native.Nat.{◌-◌}
use lib.IntN.{pos}
use mir.Syntax.{w64}
use mir.Val.{to_z}
use Rattle.losses.specs.inner.Settling.{rest_after}
use Rattle.losses.proofs.Rest.{Resting}
use Rattle.losses.proofs.Loss.rest_for.Given as goal

abbrev pub invariant-loop-i : goal.invariant-loop-i
invariant-loop-i l =
    Resting l.self.amount l.self.from l.i (to_z w64 l.rest)
    × (rest_after l.stakes l.self.amount l.self.balance (to_z w64 l.rest) l.i (l.self.last - l.i) ≡ rest_after l.stakes l.self.amount l.self.balance (pos l.self.amount) l.self.from (l.self.last - l.self.from))
