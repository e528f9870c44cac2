-- The first bytes are as they were, and what has come is within the buffer, which is as long as it was; and it is what the input gave. The
-- measure is what is wanted yet.
use Rattle.std.proofs.Common.{◌-◌, ◌≤◌, length, ◌≡◌, take, drop}
use Rattle.std.specs.Io.KnownBytes.{Consumes}
use Rattle.replay.proofs.input.fill.Given as goal

abbrev pub invariant-loop-there : goal.invariant-loop-there
invariant-loop-there g l =
    (l.have ≤ l.there) × (l.there ≤ length l.bytes) × (length l.bytes ≡ length l.initial.bytes) × (take l.have l.bytes ≡ take l.have l.initial.bytes)
    × Consumes (g.R.Read.remaining l.initial.log) (g.R.Read.remaining l.log) (drop l.have (take l.there l.bytes))

abbrev pub decreases-loop-there : goal.decreases-loop-there
decreases-loop-there g l = l.least - l.there
